use Rattle.run_book.proofs.Losing.{LostTo}
use Rattle.run_book.proofs.lost_of.Given as goal

abbrev pub invariant-loop-i : goal.invariant-loop-i
invariant-loop-i l = LostTo l.standing l.initial.left l.left l.i
