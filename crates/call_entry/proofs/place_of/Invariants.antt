use Rattle.call_entry.proofs.Seeking.{Seeking}
use Rattle.call_entry.proofs.place_of.Given as goal

abbrev pub invariant-loop-i : goal.invariant-loop-i
invariant-loop-i l = Seeking l.s l.id l.n l.i l.a
