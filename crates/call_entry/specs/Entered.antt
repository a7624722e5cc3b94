-- What the opening questions and question 8 tell of bytes and an id. Assumes nothing.
use Rattle.std.specs.Prelude.{◌≡◌, List, ℕ, ◌<◌}
use Rattle.book_format.specs.Book.{count_of_users, users_of}
use Rattle.book_format.specs.Questions.{book_number}
use Rattle.book_format.specs.Steps.{place_of}

-- the bytes pass the questions of a book, and the user of the id stands at this place
pub record Found (s : List ℕ) (id place : ℕ) : Type 0 where
  pub passes : book_number s ≡ 0
  pub stands : place ≡ place_of (users_of s) id
  pub known : place < count_of_users s
