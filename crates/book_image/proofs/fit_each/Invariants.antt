use Rattle.book_image.proofs.Fitted.{Fitting}
use Rattle.book_image.proofs.fit_each.Given as goal

abbrev pub invariant-loop-i : goal.invariant-loop-i
invariant-loop-i l = Fitting l.new_size l.size l.n l.s l.from l.initial.out l.to l.out l.i
