-- What showing a user's record gives: the number and the part of the book. Assumes nothing.
use Rattle.std.specs.Prelude.{◌≡◌, Bool, cond, List, [], ℕ, ◌+◌, drop, take, Result, Ok, Err}
use Rattle.std.specs.Borrow.{Bor}
use Rattle.refusals.specs.declared.Refusal.{Refusal}
use Rattle.rules.specs.Questions.{after, first_of, refusal}
use Rattle.rules.specs.Queries.{shown_record, about_query}
use Rattle.book_format.specs.Book.{book_of, place_of_user, size_of_user, version_of}
use Rattle.book_format.specs.Steps.{place_of}

-- ---- after the opening questions, by their number

-- what follows where no question refuses, else what a refusal gives
unfoldable pub showing : {R : Type 0} → ℕ → List ℕ → ℕ → (ℕ → R) → R → R
showing opened s id refused found = after opened refused (after (refusal (about_query (book_of s) (shown_record id))) refused found)

-- the number, and the bytes of the user's record or the empty part
pub record ShownAfter (opened : ℕ) (s : List ℕ) (id number : ℕ) (part : List ℕ) : Type 0 where
  pub asked : number ≡ first_of opened (refusal (about_query (book_of s) (shown_record id)))
  pub shows : part ≡ showing opened s id (λ n. []) (take (size_of_user (version_of s)) (drop (place_of_user s (place_of (book_of s).users id)) s))

-- the part points into the block of the book, at the record's offset
pub record PartAfter (opened : ℕ) (s : List ℕ) (id : ℕ) (book part : ℕ × ℕ) : Type 0 where
  pub block : part.0 ≡ book.0
  pub offset : part.1 ≡ book.1 + showing opened s id (λ n. 0) (place_of_user s (place_of (book_of s).users id))

-- ---- the result: a part of the book or a refusal, which hands out no bytes and no place other than the book's beginning

abbrev pub bytes_of : Result (Bor (List ℕ)) Refusal → List ℕ
bytes_of (Ok part) = part.now
bytes_of (Err refusal) = []

abbrev pub place_in : ℕ × ℕ → Result (Bor (List ℕ)) Refusal → ℕ × ℕ
place_in book (Ok part) = part.ref_ptr
place_in book (Err refusal) = book

-- ---- one of two books

-- "The pick is a yes or no, yes for the afternoon."
unfoldable pub picked : Bool → List ℕ → List ℕ → List ℕ
picked pick morning afternoon = cond pick afternoon morning

-- the picked of two places
unfoldable pub picked_at : Bool → ℕ × ℕ → ℕ × ℕ → ℕ × ℕ
picked_at pick morning afternoon = cond pick afternoon morning
