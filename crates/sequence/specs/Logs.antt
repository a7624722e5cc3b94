-- Document 02, ask 6: "For a log so started and written by these calls alone, after withdrawing every reduction noted the book is byte for byte the one before the first of them."
-- Assumes nothing.
use Rattle.std.specs.Prelude.{◌≡◌, ◌∷◌}
use Rattle.base.specs.Basics.{Bool, true, false, cond, Option, none, some, List, [], ℕ, T, eqb, length}
use Rattle.base.specs.Lists.{all}
use Rattle.fields.specs.Field.{AllBytes}
use Rattle.book_format.specs.Questions.{book_number}
use Rattle.log_format.specs.Fits.{start_number, started}
use Rattle.log_format.specs.Log.{count_of_entries, held_of}
use Rattle.requests.specs.Request.{call, postings, withdrawal, Act}
use Rattle.sequence.specs.Links.{Link, Linked, is_accepted}

-- ---- a log that is handed on

-- each request is given the log that the last one left: from log l to log m
pub data Handed : List ℕ → List Link → List ℕ → Type 0 where
  kept : {l : List ℕ} → Handed l [] l
  handed : {l n m : List ℕ} {k : Link} {ks : List Link} → k.asked.log ≡ some l → k.gave.log ≡ some n → Handed n ks m → Handed l (k ∷ ks) m

-- "written by these calls alone": the same, with requests between that are given no log, or another one
pub data Written : List ℕ → List Link → List ℕ → Type 0 where
  begun : {l : List ℕ} → Written l [] l
  written : {l n m : List ℕ} {k : Link} {ks : List Link} → k.asked.log ≡ some l → k.gave.log ≡ some n → Written n ks m → Written l (k ∷ ks) m
  beside : {l m : List ℕ} {k : Link} {ks : List Link} → Written l ks m → Written l (k ∷ ks) m

-- ---- "the one before the first of them"

-- the book before the first reduction that the log notes: the one that it held when it was last without an entry; o where it was so before
unfoldable pub since_log : List ℕ → List ℕ → List ℕ
since_log l o = cond (eqb (count_of_entries l) 0) (held_of l) o

-- of a log that is written from log l on
unfoldable pub since : {l m : List ℕ} {ks : List Link} → List ℕ → Written l ks m → List ℕ
since o begun = o
since o (written {n = n} e f w) = since (since_log n o) w
since o (beside w) = since o w

-- ---- the theorem

unfoldable pub is_withdrawal : Act → Bool
is_withdrawal (call c) = false
is_withdrawal (postings v) = false
is_withdrawal withdrawal = true

-- withdrawals, to bytes u and a log n: all are accepted, no entry is left, and the bytes are those of a book o
pub record Back (o : List ℕ) (ws : List Link) (u n : List ℕ) : Type 0 where
  pub accepted : T (all is_accepted ws)
  pub none : count_of_entries n ≡ 0
  pub bytes : u ≡ o

pub record LogBack (store : Option (List ℕ)) : Type 0 where
  pub back : (lent : List ℕ) {s t u m n : List ℕ} {ks ws : List Link} → AllBytes s → book_number s ≡ 0
      -- "It starts empty from one book", and is written by a sequence from this book
      → start_number lent s ≡ 0 → Linked store s ks t → (w : Written (started lent s) ks m)
      -- "after withdrawing every reduction noted", from the book that it holds
      → t ≡ held_of m → Linked store t ws u → Handed m ws n → T (all (λ k. is_withdrawal k.asked.act) ws) → length ws ≡ count_of_entries m
      -- "the book is byte for byte the one before the first of them"
      → Back (since s w) ws u n
