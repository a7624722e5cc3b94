-- What writing a book gives: "Writing is refused with the first question that the bytes so written would fail, a part of another length failing question 3; the part is
-- then unchanged." Assumes nothing.
use Rattle.std.specs.Prelude.{◌≡◌, ◌&&◌, ◌∷◌, ◌≤◌}
use Rattle.base.specs.Basics.{Bool, List, ℕ, T, leb, eqb, length}
use Rattle.rules.specs.Book as model
use Rattle.rules.specs.Questions.{Question, after, refusal, version_known}
use Rattle.book_format.specs.Book.{bytes_of, length_by}
use Rattle.book_format.specs.Questions.{about_fields}
use Rattle.book_tables.specs.declared.Book.{Book}
use Rattle.book_tables.specs.Book.{as_book}

-- counts in range: 1 to 64 users, at most 256 trades
unfoldable pub counts_in_range : ℕ → ℕ → Bool
counts_in_range users trades = (leb 1 users && leb users 64) && leb trades 256

-- The questions of a book that is to be written with these counts into a part of n bytes. The mark is always written, so 1 is not asked; past 3 they are those of the
-- bytes written.
unfoldable pub about_writing : ℕ → ℕ → model.Book → ℕ → List Question
about_writing users trades b n =
    record { number = 2; holds = version_known b.header.version }
    ∷ (record { number = 3; holds = counts_in_range users trades && eqb n (length_by b.header.version users trades) }
    ∷ about_fields (bytes_of b))

-- the number, and the whole of the part afterwards
pub record WrittenAs (users trades : ℕ) (b : model.Book) (s : List ℕ) (number : ℕ) (t : List ℕ) : Type 0 where
  pub asked : number ≡ refusal (about_writing users trades b (length s))
  pub part : t ≡ after (refusal (about_writing users trades b (length s))) (λ n. s) (bytes_of b)

-- of a struct: its counts, and the book that it is
abbrev pub Written : Book → List ℕ → ℕ → List ℕ → Type 0
Written b s number t = WrittenAs b.user_count b.trade_count (as_book b) s number t

-- a struct of a known version whose counts are in range
pub record InCounts (b : Book) : Type 0 where
  pub version : T (version_known b.version)
  pub some : 1 ≤ b.user_count
  pub users : b.user_count ≤ 64
  pub trades : b.trade_count ≤ 256
