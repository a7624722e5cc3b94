-- The columns that are moved and those that are left give all.
use Rattle.columns.proofs.Turns.{Arranging}
use Rattle.columns.proofs.arrange_all.Given as goal

abbrev pub invariant-loop-w : goal.invariant-loop-w
invariant-loop-w l = Arranging l.back l.widths l.long l.n l.s l.initial.out l.out l.w-index l.at l.begin
