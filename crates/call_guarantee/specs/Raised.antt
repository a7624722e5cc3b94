-- How a guarantee call ends: its last questions, and what they leave. Assumes nothing.
use Rattle.std.specs.Prelude.{◌∷◌, ◌-◌}
use Rattle.base.specs.Basics.{Bool, List, [], ℕ, get_or, sets}
use Rattle.rules.specs.Book.{User, nobody}
use Rattle.rules.specs.Levels.{Limits}
use Rattle.rules.specs.Questions.{Question, after, refusal}
use Rattle.rules.specs.Changes.{blocked_to}
use Rattle.rules.specs.Calls.{Result, of_level, assigned_suffices, unchanged}
use Rattle.book_records.specs.User.{user_bytes}
use Rattle.book_format.specs.Book.{book_of, place_of_user, users_of}
use Rattle.call_level.specs.Times.{level_of_user}
use Rattle.call_guarantee.specs.Times.{due_of}

-- the questions 11, with its answer, and 12
unfoldable pub last_questions : Bool → ℕ → User → List Question
last_questions due level u = record { number = 11; holds = due } ∷ (assigned_suffices level u ∷ [])

-- what the questions 11 and 12 leave: the bytes as they are, or with the record of the user at the place, whose blocked guarantee reaches the level
unfoldable pub raised : List ℕ → ℕ → User → ℕ → Bool → Result (List ℕ)
raised s place u level due =
    after (refusal (last_questions due level u)) (unchanged s)
    (record { answer = of_level level (level - u.blocked); book = sets s (place_of_user s place) (user_bytes (blocked_to level u)) })

-- what they leave of the user at a place
unfoldable pub called_at : Bool → Limits → List ℕ → ℕ → Result (List ℕ)
called_at afternoon limits s place =
    let u = get_or (users_of s) place nobody in
    let level = level_of_user afternoon limits (book_of s) u in
    raised s place u level (due_of afternoon limits (book_of s) level u)
