-- A posting on one user's physical entry and position, and the call that the public function is. Assumes nothing.
use Rattle.std.specs.Prelude.{◌≡◌, ◌+ℤ◌}
use Rattle.base.specs.Basics.{Bool, true, List, ℕ, ℤ}
use Rattle.rules.specs.Signed.{bits_of, signed_of, within}
use Rattle.rules.specs.Calls.{Call, only, posting}
use Rattle.rules.specs.Levels.{Limits}
use Rattle.book_format.specs.After.{CalledAfter}
use Rattle.book_format.specs.Book.{users_of}
use Rattle.book_format.specs.Steps.{place_of}

-- the call that the function `posting` is
abbrev pub posting_of : ℕ → ℕ → ℤ → Call
posting_of id area amount = posting id area amount

-- what is known of an entry and a position of an accepted book, each as 32 bits
pub record Ready (entry position : ℕ) : Type 0 where
  pub entered : within 1000000 (signed_of 32 entry) ≡ true
  pub held : within 26600000 (signed_of 32 position) ≡ true

-- whether the posting is accepted, and both after it where it is
pub record PostedTo (entry position : ℕ) (z : ℤ) (accepted : Bool) (newEntry newPosition : ℕ) : Type 0 where
  pub test : accepted ≡ within 1000000 (signed_of 32 entry +ℤ z)
  pub entered : accepted ≡ true → newEntry ≡ bits_of 32 (signed_of 32 entry +ℤ z)
  pub held : accepted ≡ true → newPosition ≡ bits_of 32 (signed_of 32 position +ℤ z)

-- the posting for the user at a place: for whatever id stands there, after the opening questions and question 8
pub record PostedAt (place area : ℕ) (z : ℤ) (s : List ℕ) (number : ℕ) (t : List ℕ) : Type 0 where
  pub posts : (id : ℕ) → place ≡ place_of (users_of s) id → (limits : Limits) → CalledAfter 0 limits s (posting_of id area z) (only number) t
