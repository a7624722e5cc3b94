use Rattle.run_state.proofs.Left.{NoneTo}
use Rattle.run_turns.proofs.next_from.Given as goal

abbrev pub invariant-loop-i : goal.invariant-loop-i
invariant-loop-i l = NoneTo l.targets l.least l.n l.i
