use Rattle.log_questions.proofs.Cuts.{AddedTo}
use Rattle.log_questions.proofs.add_cuts.Given as goal

abbrev pub invariant-loop-k : goal.invariant-loop-k
invariant-loop-k l = AddedTo l.m l.at l.log l.initial.sums l.sums l.k
