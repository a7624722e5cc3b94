use Rattle.risk_members.specs.Sums.{HeldTo}
use Rattle.risk_members.proofs.held_in.Given as goal

abbrev pub invariant-loop-i : goal.invariant-loop-i
invariant-loop-i l = HeldTo l.book l.id l.area l.i l.held
