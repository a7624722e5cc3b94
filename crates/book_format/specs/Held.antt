-- A book held in bytes: the bytes are the book's, and read as it. Assumes nothing.
use Rattle.std.specs.Prelude.{◌≡◌}
use Rattle.base.specs.Basics.{List, ℕ}
use Rattle.book_format.specs.Book.{book_of, bytes_of}
use Rattle.book_format.specs.Questions.{Formed}
use Rattle.laws.specs.Sound.{Sound}
use Rattle.rules.specs.Book.{Book, Trade}

-- bytes hold a book: they are read as it, it is written as they are, and every field stands where it should
pub record HeldAs (b : Book) (s : List ℕ) : Type 0 where
  pub book : book_of s ≡ b
  pub bytes : s ≡ bytes_of b
  pub form : Formed s

-- bytes hold a book that passes every question
pub record Accepted (s : List ℕ) : Type 0 where
  pub held : HeldAs (book_of s) s
  pub sound : Sound (book_of s)

-- the book with other trades and the users as they are
unfoldable pub trades_replaced : Book → List Trade → Book
trades_replaced b ts = record { header = b.header; users = b.users; trades = ts }
