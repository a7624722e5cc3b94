use Rattle.call_told.proofs.Seen.{Looked}
use Rattle.call_told.proofs.place_seen.Given as goal

abbrev pub invariant-loop-i : goal.invariant-loop-i
invariant-loop-i l = Looked l.book l.id l.ordinal l.i l.left
