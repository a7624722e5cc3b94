-- `on_day`: one kWh more on the days before as many as are left. Assumes nothing.
use Rattle.base.specs.Basics.{arith, lt-ltb, le-ltb}
use Rattle.shrinkage.specs.Days.{value_on_day}
use Rattle.shrinkage.proofs.on_day.Goals as goal

pub returns-then-day-left : goal.returns-then-day-left
unfolding value_on_day
returns-then-day-left c = rw (lt-ltb _ _ c.if-day-left.true) (omega arith)

pub returns-else-day-left : goal.returns-else-day-left
unfolding value_on_day
returns-else-day-left c = rw (le-ltb _ _ c.if-day-left.false) (omega arith)
