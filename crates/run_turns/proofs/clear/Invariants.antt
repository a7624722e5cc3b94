use Rattle.run_turns.proofs.Rounds.{ClearedTo}
use Rattle.run_turns.proofs.clear.Given as goal

abbrev pub invariant-loop-i : goal.invariant-loop-i
invariant-loop-i l = ClearedTo l.from l.to l.cuts l.i
