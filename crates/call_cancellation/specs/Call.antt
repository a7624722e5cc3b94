-- What a cancellation gives past the user's id. Assumes nothing.
use Rattle.std.specs.Prelude.{◌∷◌, ◌++◌}
use Rattle.base.specs.Basics.{[], ℕ}
use Rattle.rules.specs.Book.{Book, User}
use Rattle.rules.specs.Calls.{eligible_trade}
use Rattle.rules.specs.Levels.{Limits}
use Rattle.rules.specs.Questions.{after, refusal}
use Rattle.rules.specs.Reduction.{target}
use Rattle.call_questions.specs.Asked.{level_questions}
use Rattle.requests.specs.Cancellation.{Cancellation, cancelled, cancelled_for, not_cancelled, worth_suffices}

-- the questions 14 and 24, and the cancellation for an amount
unfoldable pub on_sales : Book → User → ℕ → ℕ → Cancellation
on_sales b u asked tries = after (refusal (eligible_trade b u ∷ (worth_suffices b u asked ∷ []))) not_cancelled (cancelled_for b u asked tries)

-- the questions 9, 11, 13, 14 and 24, and the cancellation for the user's target
unfoldable pub on_user : Limits → Book → User → ℕ → Cancellation
on_user limits b u tries =
    after (refusal (level_questions limits b u ++ (eligible_trade b u ∷ (worth_suffices b u (target limits b u) ∷ [])))) not_cancelled (cancelled limits b u tries)
