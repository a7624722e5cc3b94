-- `afternoon_level`: the needs of the three areas, the short and the long positions are the sums of the definition, and the floor does the rest. Assumes nothing.
use Rattle.base.specs.Basics.{sym, ap, ap₂, ◌∙◌, ℕ, arith, ℤ, pos, ◌+ℤ◌, ◌-ℤ◌}
use Rattle.base.specs.Sums.{sum}
use Rattle.rules.specs.Areas.{areas}
use Rattle.rules.specs.Levels.{afternoon_sum, exposure, floored}
use Rattle.units.specs.Amounts.{balance}
use Rattle.units.specs.Prices.{as_prices}
use Rattle.units.specs.Limits.{as_limits}
use Rattle.risk_holdings.specs.Holdings.{held_in}
use Rattle.risk_levels.proofs.Floors.{add_worths, credit_held, exposure_held}
use Rattle.risk_levels.proofs.afternoon_level.Goals as goal

pub returns : goal.returns
unfolding afternoon_sum sum areas held_in
returns c = let a = c.args in
    let held = c.positions-positions.ensures in
    c.floored.ensures
    ∙ ap₂ (λ (z : ℤ) (n : ℕ). floored (as_limits a.limits) (z -ℤ pos n))
    (ap (λ (n : ℕ). balance a.charges +ℤ pos n)
    (omega (
      arith,
      c.afternoon_worth-pvb.ensures.result_value,
      c.afternoon_worth-tvb.ensures.result_value,
      c.afternoon_worth-avb.ensures.result_value,
      c.plus.ensures,
      c.plus-2.ensures,
      c.plus-3.ensures,
      c.exposure-short.ensures.result_value ∙ exposure_held (as_prices a.prices) a.holdings held,
    ))
    ∙ sym (add_worths (balance a.charges) _ (exposure (as_prices a.prices) (held_in a.holdings))))
    (c.credit-long.ensures.result_value ∙ credit_held (as_prices a.prices) a.holdings held)
