use Rattle.log_entries.proofs.Cuts.{PutTo}
use Rattle.log_entries.proofs.put_cuts.Given as goal

abbrev pub invariant-loop-k : goal.invariant-loop-k
invariant-loop-k l = PutTo l.origins l.cuts l.from l.to l.initial.entry l.entry l.k
