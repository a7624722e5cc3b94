-- The fields that are left to move give all of them.
use Rattle.columns.proofs.Turns.{Moving}
use Rattle.columns.proofs.move_fields.Given as goal

abbrev pub invariant-loop-i : goal.invariant-loop-i
invariant-loop-i l = Moving l.width l.n l.s l.from.first l.from.step l.initial.out l.to.first l.to.step l.out l.i
