-- Document 02, ask 6: question 19, when a log is one for the book that is given; and the start of a log. Assumes nothing.
use Rattle.std.specs.Prelude.{◌≡◌, ◌&&◌, ◌||◌, ◌∷◌, ◌+◌, ◌-◌, ◌*◌}
use Rattle.base.specs.Basics.{Bool, true, false, cond, Option, none, some, List, [], ℕ, zero, suc, eqb, leb}
use Rattle.base.specs.Basics.{length, take, drop, replicate}
use Rattle.base.specs.Lists.{all}
use Rattle.rules.specs.Book.{Trade, bilateral_for_day}
use Rattle.rules.specs.Questions.{Question, refusal}
use Rattle.rules.specs.Reduction.{together}
use Rattle.book_format.specs.Book.{count_of_trades, trades_of}
use Rattle.log_format.specs.Log.{cut_size, entries_at, entries_bytes, entries_of, entries_room, entry_at, count_of_entries, entry_size, held_at, held_length, held_of, held_room, log_bytes, log_head, log_mark, log_mark_of, log_size, log_zero, most_entries, padded}

-- ---- the form

-- "mark `GDL`, a zero byte, entry count and held book's length", "the book .. (9,512 bytes), and 256 entries": the length, and what the first 12 bytes may be
unfoldable pub log_is_formed : List ℕ → Bool
log_is_formed l =
    eqb (length l) log_size
    && ((eqb (log_mark_of l) log_mark && eqb (log_zero l) 0) && (leb (count_of_entries l) most_entries && leb (held_length l) held_room))

-- ---- "whose held book differs from the one given"

unfoldable pub same_bytes : List ℕ → List ℕ → Bool
same_bytes [] [] = true
same_bytes [] (y ∷ ys) = false
same_bytes (x ∷ xs) [] = false
same_bytes (x ∷ xs) (y ∷ ys) = eqb x y && same_bytes xs ys

unfoldable pub log_holds_book : List ℕ → List ℕ → Bool
log_holds_book l s = eqb (held_length l) (length s) && same_bytes (held_of l) s

-- ---- "unused bytes are 0"

unfoldable pub zeros : List ℕ → Bool
zeros c = all (λ b. eqb b 0) c

-- behind the held book
unfoldable pub held_rest : List ℕ → List ℕ
held_rest l = take (held_room - held_length l) (drop (held_at + held_length l) l)

-- behind the cuts of the first m trades in the entry at a place
unfoldable pub cuts_rest : ℕ → List ℕ → ℕ → List ℕ
cuts_rest m l place = take (entry_size - cut_size * m) (drop (entry_at place + cut_size * m) l)

-- of each of the first n entries
unfoldable pub rests_zero : ℕ → ℕ → List ℕ → Bool
rests_zero m zero l = true
rests_zero m (suc n) l = zeros (cuts_rest m l n) && rests_zero m n l

-- behind the last entry
unfoldable pub entries_rest : List ℕ → List ℕ
entries_rest l = drop (entry_at (count_of_entries l)) l

unfoldable pub unused_zero : ℕ → List ℕ → Bool
unused_zero m l = zeros (held_rest l) && (rests_zero m (count_of_entries l) l && zeros (entries_rest l))

-- ---- "Cuts lie on trades of kind 0 and day 0 whose standing plus all their cuts is within notified."

-- what all entries cut of each of m trades
unfoldable pub all_cuts : ℕ → List (List ℕ) → List ℕ
all_cuts m [] = replicate m 0
all_cuts m (cs ∷ es) = together cs (all_cuts m es)

-- a trade and what is cut of it
unfoldable pub raise_within : ℕ → Trade → Bool
raise_within c t = leb (t.standing + c) t.terms.notified && (eqb c 0 || bilateral_for_day t)

-- trade by trade, and as many
unfoldable pub raises_within : List ℕ → List Trade → Bool
raises_within [] [] = true
raises_within [] (t ∷ ts) = false
raises_within (c ∷ cs) [] = false
raises_within (c ∷ cs) (t ∷ ts) = raise_within c t && raises_within cs ts

-- ---- question 19

-- "a log of another length or form, or whose held book differs from the one given": a log that question 19 lets pass for a book
unfoldable pub log_fits : List ℕ → List ℕ → Bool
log_fits l s =
    log_is_formed l
    && (log_holds_book l s
    && (unused_zero (count_of_trades s) l && raises_within (all_cuts (count_of_trades s) (entries_of s l)) (trades_of s)))

-- nothing is asked of a call without a log
unfoldable pub about_log : Option (List ℕ) → List ℕ → List Question
about_log none s = []
about_log (some l) s = record { number = 19; holds = log_fits l s } ∷ []

-- its number, 0 where it is answered by yes or not asked
unfoldable pub log_number : Option (List ℕ) → List ℕ → ℕ
log_number log s = refusal (about_log log s)

-- ---- the start of a log

-- "It starts empty from one book, only its length asked": the lent log has its length and the book fits in
unfoldable pub start_fits : List ℕ → List ℕ → Bool
start_fits l s = eqb (length l) log_size && leb (length s) held_room

unfoldable pub start_number : List ℕ → List ℕ → ℕ
start_number l s = cond (start_fits l s) 0 19

-- an empty log that holds the book; a refusal leaves it
unfoldable pub started : List ℕ → List ℕ → List ℕ
started l s = cond (start_fits l s) (log_bytes [] s) l

-- ---- a log part by part

-- bytes are the log of these entries, newest first, and this book: one fact for each part, as writers leave them
pub record LogOf (es : List (List ℕ)) (s l : List ℕ) : Type 0 where
  pub head : take held_at l ≡ log_head (length es) (length s)
  pub held : take held_room (drop held_at l) ≡ padded held_room s
  pub entries : drop entries_at l ≡ padded entries_room (entries_bytes es)
