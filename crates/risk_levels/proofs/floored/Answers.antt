-- `floored`: charges, worth and credit as a difference, which the floor bounds from below. Assumes nothing.
use Rattle.base.specs.Basics.{sym, ◌∙◌, arith, ltb-true, ltb-false}
use Rattle.units.specs.Amounts.{balance}
use Rattle.units.specs.Limits.{as_limits}
use Rattle.risk_levels.proofs.Floors.{floored_of}
use Rattle.risk_levels.proofs.floored.Goals as goal

pub returns-then-exceeds : goal.returns-then-exceeds
returns-then-exceeds c = let a = c.args in
    omega (
      arith,
      floored_of (as_limits a.limits) (balance a.charges) a.worth.0 a.credit.0,
      ltb-true c.plus-due.result.0 c.plus.result.0 (sym c.exceeds.ensures ∙ c.if-exceeds.true),
      c.plus-due.ensures,
      c.plus-off.ensures,
      c.plus.ensures,
    )

pub returns-else-exceeds : goal.returns-else-exceeds
returns-else-exceeds c = let a = c.args in
    omega (
      arith,
      floored_of (as_limits a.limits) (balance a.charges) a.worth.0 a.credit.0,
      ltb-false c.plus-due.result.0 c.plus.result.0 (sym c.exceeds.ensures ∙ c.if-exceeds.false),
      c.plus-due.ensures,
      c.plus-off.ensures,
      c.plus.ensures,
      c.less.ensures,
    )
