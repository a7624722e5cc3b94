use Rattle.store.proofs.Sets.{NoneLater}
use Rattle.store.proofs.in_force.Given as goal

abbrev pub invariant-loop-i : goal.invariant-loop-i
invariant-loop-i l = NoneLater l.s l.n l.date l.i
