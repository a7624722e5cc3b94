use Rattle.base.specs.Basics.{◌≤◌}
use Rattle.book_format.specs.Book.{users_of}
use Rattle.risk_user.specs.UserAt.{target_of_place}
use Rattle.run_targets.proofs.Looking.{LookedTo}
use Rattle.units.specs.Prices.{as_prices}
use Rattle.units.specs.Limits.{as_limits}
use Rattle.run_targets.proofs.look_again.Given as goal

abbrev pub invariant-loop-i : goal.invariant-loop-i
invariant-loop-i l = (l.from ≤ l.i) × LookedTo (target_of_place (as_limits l.day.limits) (as_prices l.day.prices) (users_of l.book) l.sums l.positions) l.eligible l.from l.to l.sale_buyers l.cuts l.initial.targets l.least l.targets l.low l.i
