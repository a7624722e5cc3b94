use Rattle.base.specs.Basics.{◌≤◌}
use Rattle.log_questions.proofs.Entries.{SummedTo}
use Rattle.log_questions.proofs.sum_entries.Given as goal

abbrev pub invariant-loop-place : goal.invariant-loop-place
invariant-loop-place l = SummedTo l.m l.log l.so_far l.sums l.place × (l.place ≤ l.count)
