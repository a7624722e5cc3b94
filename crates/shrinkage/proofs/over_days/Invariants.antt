use Rattle.shrinkage.proofs.Days.{Filling}
use Rattle.shrinkage.proofs.over_days.Given as goal

abbrev pub invariant-loop-day : goal.invariant-loop-day
invariant-loop-day l = Filling l.whole l.left l.days l.day
