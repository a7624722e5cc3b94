-- The question 11 and the call of a time of the day: the afternoon's where it is yes, else the morning's. Assumes nothing.
use Rattle.std.specs.Prelude.{◌&&◌}
use Rattle.base.specs.Basics.{Bool, true, false, ℕ}
use Rattle.rules.specs.Book.{Book, User}
use Rattle.rules.specs.Levels.{Limits, called_in, exceeds_its_margin}
use Rattle.rules.specs.Calls.{Call, morning_call_of, afternoon_call_of}

-- 11: "Level − blocked > 1,000,000?", and in the afternoon "user called in?"
unfoldable pub due_of : Bool → Limits → Book → ℕ → User → Bool
due_of true limits b level u = exceeds_its_margin limits level u && called_in limits b u
due_of false limits b level u = exceeds_its_margin limits level u

-- the call
abbrev pub call_of : Bool → ℕ → Call
call_of true id = afternoon_call_of id
call_of false id = morning_call_of id
