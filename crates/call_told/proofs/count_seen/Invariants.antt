use Rattle.call_told.proofs.Seen.{Counted}
use Rattle.call_told.proofs.count_seen.Given as goal

abbrev pub invariant-loop-i : goal.invariant-loop-i
invariant-loop-i l = Counted l.book l.id l.i l.count
