use Rattle.std.specs.Prelude.{unwrap_or, IfSome}
use Rattle.base.specs.Basics.{◌-◌, ◌≤◌, ◌<◌}
use Rattle.units.specs.Limits.{as_limits}
use Rattle.run_turns.specs.Turns.{ManyStand, RunTo}
use Rattle.run_turns.proofs.run_plain.Given as goal

abbrev pub invariant-loop-next : goal.invariant-loop-next
invariant-loop-next l = record {
  run : RunTo (as_limits l.day.limits) l.book l.n l.standing l.positions l.targets l.eligible l.cuts l.rests l.totals (unwrap_or l.next l.n);
  more : l.initial.totals.reductions ≤ l.totals.reductions;
  stand : 64 ≤ l.initial.totals.reductions → ManyStand l.n l.starts l.initial.standing l.standing;
  inside : IfSome l.next (λ place. place < l.n);
}

abbrev pub decreases-loop-next : goal.decreases-loop-next
decreases-loop-next l = 25600000 - l.totals.reductions
