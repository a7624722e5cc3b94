-- `run_on`: as far as it goes by plain reductions, and then as a long run. Assumes nothing.
use Rattle.base.specs.Basics.{ℕ, length-replicate}
use Rattle.run_turns.proofs.Rounds.{none_cuts, run_start}
use Rattle.run_turns.proofs.run_on.Goals as goal

pub run_plain-stage-requires-clause-run_to : goal.run_plain-stage-requires-clause-run_to
run_plain-stage-requires-clause-run_to c = let q = c.requires.run_of.0 in (
  run_start c.requires.run_of.1 q.risk.opened.accepted.sound c.requires.going none_cuts (length-replicate {A = ℕ} 256 0) c.none.ensures c.next_from-first.ensures.first,
  c.next_from-first.ensures.inside,
)
