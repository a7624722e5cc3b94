-- `over_days` fills one day after the other. Assumes nothing.
use Rattle.base.specs.Basics.{refl, arith}
use Rattle.base.proofs.Rewriting.{rewritten_start}
use Rattle.shrinkage.specs.Days.{values_over_days}
use Rattle.shrinkage.proofs.Days.{filling_more, filling_end}
use Rattle.shrinkage.proofs.over_days.Goals as goal

pub returns : goal.returns
unfolding values_over_days
returns c = filling_end c.loop-day.invariant (omega arith)

pub loop-day-init : goal.loop-day-init
loop-day-init c = record { filled = rewritten_start refl }

pub on_day-requires : goal.on_day-requires
on_day-requires c = omega arith

pub offset_bounds-days-day : goal.offset_bounds-days-day
offset_bounds-days-day c = omega arith

pub bounds-days-day : goal.bounds-days-day
bounds-days-day c = omega arith

pub loop-day-preserved : goal.loop-day-preserved
loop-day-preserved c = filling_more c.loop-day.invariant (omega arith) c.on_day.ensures
