-- A list of postings after its opening questions: what is known before its lines, and what they leave. Assumes nothing.
use Rattle.std.specs.Prelude.{◌≡◌}
use Rattle.base.specs.Basics.{List, ℕ, ℤ, length, take}
use Rattle.book_format.specs.Book.{size_of_header, count_of_users, size_of_user, users_of, version_of}
use Rattle.book_format.specs.Questions.{book_number}
use Rattle.book_parties.specs.Ids.{Padded, ids_of}
use Rattle.requests.specs.Request.{Setting, as_bytes, lines_in, opening}
use Rattle.rules.specs.Questions.{after}

-- the columns and the places have one count
pub record Even (ids areas : List ℕ) (amounts : List ℤ) (places : List ℕ) : Type 0 where
  pub of_areas : length areas ≡ length ids
  pub of_amounts : length amounts ≡ length ids
  pub of_places : length places ≡ length ids

-- the bytes pass their questions, their users begin at an offset and have a size, and the first n of 64 numbers are the ids of these, which can be searched
pub record Known (known : List ℕ) (n at size : ℕ) (s : List ℕ) : Type 0 where
  pub passes : book_number s ≡ 0
  pub begin : at ≡ size_of_header (version_of s)
  pub sized : size ≡ size_of_user (version_of s)
  pub count : n ≡ count_of_users s
  pub listed : take n known ≡ ids_of (users_of s)
  pub padded : Padded known n

-- the lines posted one after another in any setting whose opening questions the bytes pass: the bytes and the places after
pub record LinesPosted (ids areas : List ℕ) (amounts : List ℤ) (s t left : List ℕ) : Type 0 where
  pub bytes : (g : Setting) → opening (book_number s) g s ≡ 0 → t ≡ (lines_in as_bytes g s ids areas amounts).book
  pub beside : (g : Setting) → opening (book_number s) g s ≡ 0 → left ≡ (lines_in as_bytes g s ids areas amounts).numbers

-- by the number of the opening questions: it is returned, and where it is not 0 bytes and places are as they were
pub record ListedAfter (number : ℕ) (ids areas : List ℕ) (amounts : List ℤ) (places s : List ℕ) (result : ℕ) (t left : List ℕ) : Type 0 where
  pub asked : result ≡ number
  pub bytes : (g : Setting) → (number ≡ 0 → opening (book_number s) g s ≡ 0) → t ≡ after number (λ n. s) (lines_in as_bytes g s ids areas amounts).book
  pub beside : (g : Setting) → (number ≡ 0 → opening (book_number s) g s ≡ 0) → left ≡ after number (λ n. places) (lines_in as_bytes g s ids areas amounts).numbers
