-- The call of the rules that the function `reduction` is, and its questions past the user's id with what they leave. Those of a log come last. Assumes nothing.
use Rattle.std.specs.Prelude.{◌≡◌, ◌∷◌, ◌++◌}
use Rattle.base.specs.Basics.{Bool, cond, List, [], ℕ}
use Rattle.rules.specs.Book.{User}
use Rattle.rules.specs.Questions.{Question, after, refusal}
use Rattle.rules.specs.Levels.{Limits}
use Rattle.rules.specs.Calls.{Answer, Call, Result, reduction, eligible_trade, reduced, reduced_by, result_in, unchanged}
use Rattle.book_format.specs.Book.{book_of}
use Rattle.book_format.specs.Steps.{in_bytes}
use Rattle.call_questions.specs.Asked.{level_questions}
use Rattle.log_format.specs.Noted.{has_room, room}

-- the call that the function `reduction` is
abbrev pub reduction_of : ℕ → Call
reduction_of id = reduction id

-- 20 is asked of a lent log where it is given
unfoldable pub room_asked : Bool → List ℕ → List Question
room_asked lent l = cond lent (has_room (room l) ∷ []) []

-- the questions 9, 11, 13 and 14 and those asked last, and the reduction of the user for its target
unfoldable pub on_user : List Question → Limits → List ℕ → User → Result (List ℕ)
on_user last limits s u =
    after (refusal (level_questions limits (book_of s) u ++ (eligible_trade (book_of s) u ∷ last))) (unchanged s)
    (result_in in_bytes (reduced limits (book_of s) u))

-- question 14 and those asked last, and the reduction of the user for an amount
unfoldable pub on_sales : List Question → List ℕ → User → ℕ → Result (List ℕ)
on_sales last s u asked =
    after (refusal (eligible_trade (book_of s) u ∷ last)) (unchanged s)
    (result_in in_bytes (reduced_by (book_of s) u asked))

-- an answer, and the bytes after it
pub record Gives (x : Result (List ℕ)) (a : Answer) (t : List ℕ) : Type 0 where
  pub answer : a ≡ x.answer
  pub bytes : t ≡ x.book
