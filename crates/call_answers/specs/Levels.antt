-- The levels of all users that a list of them, or the refusal in place of it, is. Assumes nothing.
use Rattle.std.specs.Prelude.{List, map, Result, Ok, Err}
use Rattle.refusals.specs.Refusal.{number_of}
use Rattle.refusals.specs.declared.Refusal.{Refusal}
use Rattle.risk_user.specs.States.{state_of}
use Rattle.user_levels.specs.Levels as rows
use Rattle.user_levels.specs.Levels.{no_levels}
use Rattle.call_answers.specs.declared.UserLevels.{UserLevels}

-- by its fields
unfoldable pub as_row : UserLevels → rows.UserLevels
as_row r = record { id = r.id; state = state_of r.state; morning = r.morning.0; afternoon = r.afternoon.0 }

-- the rows; none where the call is refused
abbrev pub levels_told : Result (List UserLevels) Refusal → rows.AllLevels
levels_told (Ok users) = record { number = 0; users = map as_row users }
levels_told (Err refusal) = no_levels (number_of refusal)
