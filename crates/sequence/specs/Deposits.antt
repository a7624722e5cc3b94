-- What deposit stops the cuts, of a run on a book in bytes with a store and a log, or none of them, by the contract of the public function, accepted, stopped by a full log or refused.
-- The bytes hold some book after its deposits; the figures are those in force on that book's date. Assumes nothing.
use Rattle.std.specs.Prelude.{◌≡◌, ◌<◌}
use Rattle.base.specs.Basics.{Option, List, Memᴰ, ℕ, T}
use Rattle.fields.specs.Field.{AllBytes}
use Rattle.book_format.specs.Book.{book_of}
use Rattle.book_format.specs.Questions.{book_number}
use Rattle.laws_deposits.specs.Deposits.{lacking, with_deposits}
use Rattle.requests.specs.Carried.{Carried}
use Rattle.requests.specs.Request.{act_of, call, opening_with, setting_of}
use Rattle.rules.specs.Book.{Book, User}
use Rattle.rules.specs.Calls.{Answer, only, run}
use Rattle.rules.specs.Levels.{short_of_cover}
use Rattle.rules.specs.Reduction.{has_eligible, target}
use Rattle.store.specs.Store.{limits_of}

-- A run that was given the bytes s, answered a and left the bytes t.
pub record DepositsStop (store log : Option (List ℕ)) : Type 0 where
  -- each user deposited what it lacked: the number of the opening questions alone, so that a full log does not stop it, and the bytes as they were
  pub suffice : (b : Book) {s t : List ℕ} {a : Answer} → AllBytes s → book_of s ≡ with_deposits (lacking (limits_of store b.header.date) b) b
      → Carried (act_of store log (call run)) s a t → (a ≡ only (opening_with (book_number s) (setting_of store) log s)) × (t ≡ s)
  -- one that was short of cover with an eligible trade deposited less than its target: a run that returns 0 has reduced
  pub least : (b : Book) (amounts : User → ℕ) (u : User) {s t : List ℕ} {a : Answer} → book_of s ≡ with_deposits amounts b → Memᴰ u b.users
      → let limits = limits_of store b.header.date in
      T (short_of_cover limits b u) → T (has_eligible b u) → amounts u < target limits b u → Carried (act_of store log (call run)) s a t → a.number ≡ 0 → 0 < a.reductions
