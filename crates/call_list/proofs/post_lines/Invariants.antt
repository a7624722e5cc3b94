use Rattle.call_list.proofs.Turns.{Going}
use Rattle.call_list.proofs.post_lines.Given as goal

abbrev pub invariant-loop-i : goal.invariant-loop-i
invariant-loop-i l = Going l.known l.n l.at l.size l.ids l.areas l.amounts l.initial.book l.book l.places l.i
