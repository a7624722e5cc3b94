use Rattle.book_image.proofs.Fitted.{Copying}
use Rattle.book_image.proofs.copy_eights.Given as goal

abbrev pub invariant-loop-i : goal.invariant-loop-i
invariant-loop-i l = Copying l.s l.from l.initial.out l.to l.k l.out l.i
