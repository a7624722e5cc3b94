use Rattle.base.specs.Basics.{◌*◌}
use Rattle.book_image.proofs.Turns.{Clearing}
use Rattle.book_image.proofs.clear_fields.Given as goal

abbrev pub invariant-loop-i : goal.invariant-loop-i
invariant-loop-i l = Clearing l.width l.offset l.size l.n l.initial.out l.out l.i (l.size * l.i)
