-- `shares_of` gives one user more the share and the remainder at each turn. Assumes nothing.
use Rattle.base.specs.Basics.{◌≡◌, arith, pos, get_or}
use Rattle.shrinkage.proofs.Division.{dividing_start, dividing_more, dividing_end, given_next, own_most}
use Rattle.std.proofs.Common.{rules}
use Rattle.base.specs.Parts.{neg_part}
use Rattle.base.proofs.Signs.{kept_parts}
use Rattle.shrinkage.proofs.shares_of.Goals as goal
use Rattle.shrinkage.proofs.shares_of.Goals.{After-of}

-- what the balance that is looked at is below 0
own : (c : goal.After-of) → c.of.result.below.0 ≡ neg_part (get_or c.args.balances.now c.loop-i.i (pos 0))
own c = (kept_parts (get_or c.args.balances.now c.loop-i.i (pos 0)) (search rules) c.of.ensures.above_value).1

pub product-dividend-requires : goal.product-dividend-requires
product-dividend-requires c = let q = c.requires in
    (q.half_most, own_most q c.loop-i.i (pos 0) c.loop-i-test.true (own (goal.at.product-dividend-requires c).After-of))

pub overflow_add-given : goal.overflow_add-given
overflow_add-given c = let q = c.requires in
    let g = given_next q c.loop-i.invariant (pos 0) c.loop-i-test.true (own (goal.at.overflow_add-given c).After-of) c.product-dividend.ensures in
    omega (arith, q.half_most, g)

pub loop-i-preserved : goal.loop-i-preserved
loop-i-preserved c = dividing_more c.requires c.loop-i.invariant (pos 0) c.loop-i-test.true (own (goal.at.loop-i-preserved c).After-of) c.product-dividend.ensures

pub loop-i-init : goal.loop-i-init
loop-i-init c = dividing_start

pub offset_bounds-balances-i : goal.offset_bounds-balances-i
offset_bounds-balances-i c = omega (arith, c.requires.few)

pub bounds-balances-i : goal.bounds-balances-i
bounds-balances-i c = omega arith

pub nonzero_div-share : goal.nonzero_div-share
nonzero_div-share c = c.requires.some

pub offset_bounds-shares-i : goal.offset_bounds-shares-i
offset_bounds-shares-i c = omega (arith, c.requires.few)

pub bounds-shares-i : goal.bounds-shares-i
bounds-shares-i c = omega (arith, c.requires.few)

pub nonzero_rem-remainders : goal.nonzero_rem-remainders
nonzero_rem-remainders c = c.requires.some

pub offset_bounds-remainders-i : goal.offset_bounds-remainders-i
offset_bounds-remainders-i c = omega (arith, c.requires.few)

pub bounds-remainders-i : goal.bounds-remainders-i
bounds-remainders-i c = omega (arith, c.requires.few)

pub returns : goal.returns
returns c = dividing_end c.requires c.loop-i.invariant (omega arith)
