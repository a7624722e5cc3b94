-- Document 02, ask 9: a book read into its fields. "All else is the operator's": a shipper may have its own record, not the book. Assumes nothing.
use Rattle.std.specs.Prelude.{◌≡◌}
use Rattle.base.specs.Basics.{List, ℕ}
use Rattle.book_tables.specs.declared.Book.{Book}
use Rattle.book_tables.specs.Book.{BookRead, blank_book}
use Rattle.rights.specs.Acting.{entering_number}
use Rattle.rights.specs.Party.{Party, operators}

-- the number of the questions 1 to 7 and 26, and the book, or a blank one where a question refuses
pub record ReadBy (actor : Party) (s : List ℕ) (number : ℕ) (b : Book) : Type 0 where
  pub asked : number ≡ entering_number actor operators s
  pub book : number ≡ 0 → BookRead s b
  pub blank : (number ≡ 0 → ⊥) → b ≡ blank_book
