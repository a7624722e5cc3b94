use Rattle.shrinkage.specs.Answer.{kwh_of}
use Rattle.base.proofs.Storing.{Storing}
use Rattle.exports_shrinkage.proofs.store_days.Given as goal

abbrev pub invariant-loop-i : goal.invariant-loop-i
invariant-loop-i l = Storing (kwh_of l.days) 0 l.initial.answer l.answer l.i
