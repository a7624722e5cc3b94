use Rattle.std.specs.Prelude.{unwrap_or, IfSome}
use Rattle.base.specs.Basics.{◌-◌, ◌<◌}
use Rattle.units.specs.Limits.{as_limits}
use Rattle.run_noted.proofs.Rounds.{NotedTo}
use Rattle.run_noted.proofs.run_on.Given as goal

abbrev pub invariant-loop-next : goal.invariant-loop-next
invariant-loop-next l = record {
  noted : NotedTo (as_limits l.day.limits) l.book l.n l.count l.initial.log l.standing l.positions l.targets l.eligible l.cuts l.rests l.totals (unwrap_or l.next l.n) l.log l.noted;
  inside : IfSome l.next (λ place. place < l.n);
}

abbrev pub decreases-loop-next : goal.decreases-loop-next
decreases-loop-next l = 25600000 - l.totals.reductions
