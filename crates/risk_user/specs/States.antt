-- The state of the rules that each state of the code is, and the state of a user by its level and by whether it is called in. Assumes nothing.
use Rattle.std.specs.Prelude.{◌&&◌}
use Rattle.base.specs.Basics.{Bool, cond, ℕ, leb}
use Rattle.rules.specs.Book.{User}
use Rattle.rules.specs.Day as day
use Rattle.rules.specs.Levels.{Limits, exceeds_its_margin, shipper, uncovered}
use Rattle.risk_user.specs.declared.State.{State}
use Rattle.risk_user.specs.declared.State.TheVariants.{Clear, Short, Call, Quiet}

-- by its name
abbrev pub state_of : State → day.State
state_of Clear = day.clear
state_of Short = day.short
state_of Call = day.call
state_of Quiet = day.quiet

-- a clearing house; short of cover; called in with a guarantee that suffices; or none of these
unfoldable pub state_by : Limits → User → ℕ → Bool → day.State
state_by limits u level called =
    cond (shipper u)
    (cond (called && uncovered limits u level) day.short
    (cond (called && (exceeds_its_margin limits level u && leb level u.party.assigned)) day.call day.quiet))
    day.clear
