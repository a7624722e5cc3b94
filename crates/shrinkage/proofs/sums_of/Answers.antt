-- `sums_of` adds both sides of one balance more at each turn. Assumes nothing.
use Rattle.base.specs.Basics.{◌≡◌, arith, refl, pos, get_or}
use Rattle.shrinkage.proofs.Balances.{summing_start, summing_more, summing_no, summing_end}
use Rattle.std.proofs.Common.{rules}
use Rattle.base.specs.Parts.{pos_part, neg_part}
use Rattle.base.proofs.Signs.{kept_parts}
use Rattle.shrinkage.proofs.sums_of.Goals as goal
use Rattle.shrinkage.proofs.sums_of.Goals.{After-of-sides}

-- the sides are those of the balance that is looked at
sides : (c : goal.After-of-sides) → let z = get_or c.args.balances.now c.loop-balance.balance-index (pos 0) in (c.of-sides.result.above.0 ≡ pos_part z) × (c.of-sides.result.below.0 ≡ neg_part z)
sides c = kept_parts (get_or c.args.balances.now c.loop-balance.balance-index (pos 0)) (search rules) c.of-sides.ensures.above_value

pub returns-then-sides-gt500000000 : goal.returns-then-sides-gt500000000
returns-then-sides-gt500000000 c = (summing_no (pos 0) c.loop-balance.invariant c.loop-balance-test.true (sides (goal.at.returns-then-sides-gt500000000 c).After-of-sides) c.if-sides-gt500000000.true, refl)

pub loop-balance-preserved : goal.loop-balance-preserved
loop-balance-preserved c = summing_more (pos 0) c.loop-balance.invariant c.loop-balance-test.true (sides (goal.at.loop-balance-preserved c).After-of-sides) c.if-sides-gt500000000.false

pub loop-balance-init : goal.loop-balance-init
loop-balance-init c = summing_start

pub overflow_add-sides : goal.overflow_add-sides
overflow_add-sides c = omega arith

pub overflow_add-above : goal.overflow_add-above
overflow_add-above c = omega arith

pub overflow_add-below : goal.overflow_add-below
overflow_add-below c = omega arith

pub returns : goal.returns
returns c = summing_end c.requires c.loop-balance.invariant (omega arith)
