-- `morning_level`: the needs of the three areas are the sum of the definition, no credit is taken off, and the floor does the rest. Assumes nothing.
use Rattle.base.specs.Basics.{ap, ◌∙◌, ℕ, arith, ℤ, pos, ◌+ℤ◌, +ℤ_idr}
use Rattle.base.specs.Sums.{sum}
use Rattle.rules.specs.Areas.{areas}
use Rattle.rules.specs.Levels.{morning_sum, floored}
use Rattle.units.specs.Amounts.{balance}
use Rattle.units.specs.Limits.{as_limits}
use Rattle.risk_holdings.specs.Holdings.{held_in}
use Rattle.risk_levels.proofs.morning_level.Goals as goal

pub returns : goal.returns
unfolding morning_sum sum areas held_in
returns c = let a = c.args in
    c.floored.ensures
    ∙ ap (λ (z : ℤ). floored (as_limits a.limits) z)
    (+ℤ_idr _
    ∙ ap (λ (n : ℕ). balance a.charges +ℤ pos n)
    (omega (
      arith,
      c.morning_worth-pvb.ensures.result_value,
      c.morning_worth-tvb.ensures.result_value,
      c.morning_worth-avb.ensures.result_value,
      c.plus.ensures,
      c.plus-2.ensures,
    )))
