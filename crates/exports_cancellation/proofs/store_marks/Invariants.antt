use Rattle.base.specs.Basics.{map}
use Rattle.base.proofs.Storing.{Storing}
use Rattle.exports_answers.specs.Numbers.{bit}
use Rattle.exports_cancellation.proofs.store_marks.Given as goal

abbrev pub invariant-loop-i : goal.invariant-loop-i
invariant-loop-i l = Storing (map bit l.marks) 0 l.initial.part l.part l.i
