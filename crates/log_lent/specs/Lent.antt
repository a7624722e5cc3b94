-- A lent log, given or not: one that can be emptied, one that has room, and one that a reduction is noted in. Assumes nothing.
use Rattle.std.specs.Prelude.{◌≡◌, ◌≤◌, ◌<◌}
use Rattle.base.specs.Basics.{Bool, true, false, cond, List, ℕ, suc, T, ltb, length}
use Rattle.book_format.specs.Book.{count_of_trades}
use Rattle.log_entries.specs.Entries.{Notable, NotedAt, sealed}
use Rattle.log_format.specs.Fits.{log_fits}
use Rattle.log_format.specs.Log.{count_of_entries, held_room, log_size, most_entries}
use Rattle.log_format.specs.Noted.{room}

-- the log is one for some book, and the book that it is to hold fits in
pub record Emptiable (l s : List ℕ) : Type 0 where
  pub before : List ℕ
  pub fits : T (log_fits l before)
  pub few : count_of_trades before ≤ 256
  pub room : length s ≤ held_room

-- "a reduction with a full log": whether a log that is given has room for one more entry
unfoldable pub room_in : Bool → List ℕ → Bool
room_in lent l = cond lent (ltb 0 (room l)) true

-- a log that is not full can note cuts from..to, and hold the book s
pub record NotableIn (l s origins cuts : List ℕ) (from to : ℕ) : Type 0 where
  pub size : length l ≡ log_size
  pub free : count_of_entries l < most_entries
  pub held : length s ≤ held_room
  pub listed : Notable origins cuts from to

-- it has noted them as its last entry, and holds the book
pub record NotedLast (l s origins cuts : List ℕ) (from to : ℕ) (m : List ℕ) : Type 0 where
  pub noted : List ℕ
  pub entry : NotedAt (count_of_entries l) origins cuts from to l noted
  pub whole : m ≡ sealed (suc (count_of_entries l)) s noted

-- a log that is given; one that is not stays
pub record NotedLent (lent : Bool) (l s origins cuts : List ℕ) (from to : ℕ) (m : List ℕ) : Type 0 where
  pub stays : lent ≡ false → m ≡ l
  pub last : lent ≡ true → NotedLast l s origins cuts from to m
