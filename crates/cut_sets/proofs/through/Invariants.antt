use Rattle.base.specs.Basics.{◌-◌}
use Rattle.cut_sets.proofs.Counting.{Going}
use Rattle.cut_sets.proofs.through.Given as goal

abbrev pub invariant-loop-best : goal.invariant-loop-best
invariant-loop-best l = Going l.base l.until l.spare l.low l.initial.best l.best

abbrev pub decreases-loop-best : goal.decreases-loop-best
decreases-loop-best l = l.until - l.best.made
