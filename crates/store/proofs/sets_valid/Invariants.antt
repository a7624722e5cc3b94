use Rattle.store.proofs.Sets.{SetsLeft}
use Rattle.store.proofs.sets_valid.Given as goal

abbrev pub invariant-loop-i : goal.invariant-loop-i
invariant-loop-i l = SetsLeft l.s l.n l.last l.i
