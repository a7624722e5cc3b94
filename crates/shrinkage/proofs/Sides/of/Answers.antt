-- `Sides::of`: the absolute value of a balance is what it is above 0 where it is 0 or more, else what it is below 0. Assumes nothing.
use Rattle.base.specs.Basics.{◌≡◌, ◌∙◌, ap, ℕ, ◌+◌, arith, ℤ, nat_abs}
use mir.Syntax.{w64}
use mir.Val.{SFits, to_z, of_z}
use mir.ValLaws.{to_z-of_z}
use Rattle.base.proofs.Linear.{abs_parts}
use Rattle.base.proofs.Signs.{below, not_below}
use Rattle.base.specs.Parts.{pos_part, neg_part}
use Rattle.shrinkage.proofs.Sides.of.Goals as goal

sizes : (z : ℤ) → SFits w64 z → {size : ℕ} → size ≡ nat_abs (to_z w64 (of_z w64 z)) → size ≡ pos_part z + neg_part z
sizes z f e = e ∙ ap nat_abs (to_z-of_z w64 z f) ∙ abs_parts z

pub returns-then-balance-lt0-clause-above_value : goal.returns-then-balance-lt0-clause-above_value
returns-then-balance-lt0-clause-above_value c = let z = c.args.balance in
    let b = below z c.ranges.balance c.if-balance-lt0.true in
    omega (arith, sizes z c.ranges.balance c.unsigned_abs.ensures.value, b.above_zero)

pub returns-else-balance-lt0-clause-above_value : goal.returns-else-balance-lt0-clause-above_value
returns-else-balance-lt0-clause-above_value c = let z = c.args.balance in
    let b = not_below z c.ranges.balance c.if-balance-lt0.false in
    omega (arith, sizes z c.ranges.balance c.unsigned_abs.ensures.value, b.below_zero)
