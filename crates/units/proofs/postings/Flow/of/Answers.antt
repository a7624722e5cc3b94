-- The size of an amount is its part above 0 or its part below 0: the other part is 0. Assumes nothing.
use Rattle.std.proofs.Common.{ap, arith}
use mir.Syntax.{w64}
use mir.ValLaws.{to_z-of_z}
use Rattle.base.specs.Basics.{nat_abs}
use Rattle.base.proofs.Linear.{abs_parts}
use Rattle.base.proofs.Signs.{below, not_below}
use Rattle.units.proofs.postings.Flow.of.Goals as goal

pub returns-then-amount-lt0-clause-inflow_value : goal.returns-then-amount-lt0-clause-inflow_value
returns-then-amount-lt0-clause-inflow_value c =
    let b = below c.args.amount c.ranges.amount c.if-amount-lt0.true in
    omega (arith, ap nat_abs (to_z-of_z w64 c.args.amount c.ranges.amount), abs_parts c.args.amount, b.above_zero)

pub returns-else-amount-lt0-clause-inflow_value : goal.returns-else-amount-lt0-clause-inflow_value
returns-else-amount-lt0-clause-inflow_value c =
    let b = not_below c.args.amount c.ranges.amount c.if-amount-lt0.false in
    omega (arith, ap nat_abs (to_z-of_z w64 c.args.amount c.ranges.amount), abs_parts c.args.amount, b.below_zero)
