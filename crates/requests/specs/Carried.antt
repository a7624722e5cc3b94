-- What the contracts of the public calls and queries say of answer and bytes, and of what asks the opening questions for them; the log that is lent to calls is in Logged.antt. Assumes nothing.
use Rattle.std.specs.Prelude.{◌≡◌}
use Rattle.base.specs.Basics.{List, [], ℕ, take, drop}
use Rattle.rules.specs.Calls.{Answer}
use Rattle.rules.specs.Levels.{Limits}
use Rattle.rules.specs.Questions.{after}
use Rattle.book_format.specs.Book.{book_of, place_of_user, size_of_user, version_of}
use Rattle.book_format.specs.Questions.{book_number}
use Rattle.book_format.specs.Steps.{place_of}
use Rattle.requests.specs.Request.{Request, Setting, limits_on, opening, request_after}

-- a call after the questions of the book, and 26, whose number is n: bytes before, answer, bytes after
pub record CarriedAfter (n : ℕ) (r : Request) (s : List ℕ) (a : Answer) (t : List ℕ) : Type 0 where
  pub answer : a ≡ (request_after n r s).answer
  pub bytes : t ≡ (request_after n r s).book

-- a call
abbrev pub Carried : Request → List ℕ → Answer → List ℕ → Type 0
Carried r s a t = CarriedAfter (book_number s) r s a t

-- the opening questions of a call, asked after those of the book, and 26, whose number is n: their number, and the figures of the call where it is 0
pub record Admitted (n : ℕ) (g : Setting) (s : List ℕ) (number : ℕ) (limits : Limits) : Type 0 where
  pub asked : number ≡ opening n g s
  pub taken : number ≡ 0 → limits ≡ limits_on g (book_of s)

-- ---- a shown record

-- by the number of the request: "A user's 56 bytes are handed back as that part of the book", "an empty part where a part is due"
unfoldable pub part_shown : ℕ → List ℕ → ℕ → List ℕ
part_shown number s id = after number (λ n. []) (take (size_of_user (version_of s)) (drop (place_of_user s (place_of (book_of s).users id)) s))

-- where the part begins in the book: at the user's record; an empty part at the book's own beginning
unfoldable pub part_at : ℕ → List ℕ → ℕ → ℕ
part_at number s id = after number (λ n. 0) (place_of_user s (place_of (book_of s).users id))
