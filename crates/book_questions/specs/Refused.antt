-- What a book that was asked the questions gives, as the number and the trades read that its definitions have. Assumes nothing.
use Rattle.std.specs.Prelude.{Ok, Err, Result, ℕ}
use Rattle.refusals.specs.Refusal.{number_of}
use Rattle.book_questions.specs.declared.Refused.{Refused}

-- the number of the question that refuses, 0 where none does
abbrev pub number_asked : {A : Type 0} → Result A Refused → ℕ
number_asked (Ok value) = 0
number_asked (Err refused) = number_of refused.refusal

-- how many trades were read: "the number of trades it read"
abbrev pub read_of : Result ℕ Refused → ℕ
read_of (Ok read) = read
read_of (Err refused) = refused.read

-- how many of a count of trades a walk over them passed, which gives the number where it stops
abbrev pub passed_of : {A : Type 0} → ℕ → Result A ℕ → ℕ
passed_of count (Ok value) = count
passed_of count (Err read) = read
