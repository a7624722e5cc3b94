use Rattle.std.specs.Prelude.{unwrap_or, IfSome}
use Rattle.base.specs.Basics.{◌+◌, ◌-◌, ◌≤◌, ◌<◌, get_or}
use Rattle.units.specs.Limits.{as_limits}
use Rattle.units.specs.Prices.{as_prices}
use Rattle.run_turns.proofs.Others.{KeepsAll}
use Rattle.run_turns.specs.Turns.{RunTo}
use Rattle.run_turns.proofs.long.run_long.Given as goal

abbrev pub invariant-loop-next : goal.invariant-loop-next
invariant-loop-next l = record {
  run : RunTo (as_limits l.day.limits) l.book l.n l.standing l.positions l.targets l.eligible l.cuts l.rests l.totals (unwrap_or l.next l.n);
  keeps : KeepsAll (as_prices l.day.prices) l.n l.starts l.standing l.areas l.kept;
  many : IfSome l.next (λ place. (place < l.n) × (64 ≤ l.totals.reductions) × (get_or l.starts place 0 + 8 < get_or l.starts (place + 1) 0));
}

abbrev pub decreases-loop-next : goal.decreases-loop-next
decreases-loop-next l = 25600000 - l.totals.reductions
