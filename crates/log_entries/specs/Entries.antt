-- Entries of a log as they are written: cuts at the places of their trades. Assumes nothing.
use Rattle.std.specs.Prelude.{◌≡◌, ◌∷◌, ◌++◌, ◌≤◌, ◌<◌}
use Rattle.base.specs.Basics.{List, [], ℕ, length, get_or, take, drop, set, replicate, sets}
use Rattle.laws_sales.specs.Parts.{part}
use Rattle.fields.specs.Layout.{Every}
use Rattle.log_format.specs.Log.{entries_at, entries_bytes, entries_room, entry_at, entry_bytes, entry_size, held_room, log_head, log_size, padded}

-- an entry with cuts written at the places of their trades, one after the other
unfoldable pub entered : List ℕ → List ℕ → List ℕ → List ℕ
entered [] cs xs = xs
entered (i ∷ is) [] xs = xs
entered (i ∷ is) (c ∷ cs) xs = entered is cs (set xs i c)

-- cuts from..to of two arrays, with the places of their trades: each of 32 bits, the arrays long enough
pub record Notable (origins cuts : List ℕ) (from to : ℕ) : Type 0 where
  pub rising : from ≤ to
  pub few : to ≤ 256
  pub origins_room : length origins ≡ 256
  pub cuts_room : length cuts ≡ 256
  pub small : (k : ℕ) → from ≤ k → k < to → get_or cuts k 0 < 4294967296

-- an entry's 1,024 bytes after the cuts from..to are written at their places, whatever entry they had
pub record Noted (origins cuts : List ℕ) (from to : ℕ) (before after : List ℕ) : Type 0 where
  pub long : length after ≡ length before
  pub each : (xs : List ℕ) → length xs ≤ 256 → ((k : ℕ) → k < length (part from to origins) → get_or (part from to origins) k 0 < length xs)
      → before ≡ entry_bytes xs → after ≡ entry_bytes (entered (part from to origins) (part from to cuts) xs)

-- bytes of which n from an offset are made 0
abbrev pub cleared : ℕ → ℕ → List ℕ → List ℕ
cleared at n l = sets l at (replicate (length (take n (drop at l))) 0)

-- the first 9,524 bytes of a log written anew: a count, and the book that it holds
abbrev pub sealed : ℕ → List ℕ → List ℕ → List ℕ
sealed count s l = log_head count (length s) ++ (padded held_room s ++ drop entries_at l)

-- the same of a log, in its entry at a place
pub record NotedAt (place : ℕ) (origins cuts : List ℕ) (from to : ℕ) (before after : List ℕ) : Type 0 where
  pub entry : List ℕ
  pub noted : Noted origins cuts from to (take entry_size (drop (entry_at place) before)) entry
  pub bytes : after ≡ sets before (entry_at place) entry

-- bytes of a log's length have these entries, each of m cuts of 32 bits, and 0 behind them
pub record EntriesIn (m : ℕ) (es : List (List ℕ)) (l : List ℕ) : Type 0 where
  pub size : length l ≡ log_size
  pub fit : Every (λ (cs : List ℕ). (length cs ≡ m) × Every (λ c. c < 4294967296) cs) es
  pub bytes : drop entries_at l ≡ padded entries_room (entries_bytes es)
