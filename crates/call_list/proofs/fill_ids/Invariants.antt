use Rattle.call_list.proofs.Ids.{Filling}
use Rattle.call_list.proofs.fill_ids.Given as goal

abbrev pub invariant-loop-i : goal.invariant-loop-i
invariant-loop-i l = Filling l.book l.n l.known l.i l.a
