-- What bytes are that were asked the questions, with the book that they hold as a struct. Assumes nothing.
use Rattle.std.specs.Prelude.{◌≡◌, Ok, Err, Result}
use Rattle.base.specs.Basics.{List, ℕ}
use Rattle.book_format.specs.Questions.{book_number}
use Rattle.book_tables.specs.declared.Book.{Book}
use Rattle.book_tables.specs.Book.{BookRead, blank_book}
use Rattle.refusals.specs.declared.Refusal.{Refusal}

-- bytes that were asked the questions 1 to 7: the number, and the book, or a blank one where a question refuses
pub record Opened (s : List ℕ) (number : ℕ) (b : Book) : Type 0 where
  pub asked : number ≡ book_number s
  pub book : number ≡ 0 → BookRead s b
  pub blank : (number ≡ 0 → ⊥) → b ≡ blank_book

-- the book that opening gives, or a blank one where it refuses
abbrev pub book_in : Result Book Refusal → Book
book_in (Ok b) = b
book_in (Err refusal) = blank_book
