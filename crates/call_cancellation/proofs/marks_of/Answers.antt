-- `marks_of`: from place i on the marks stand; what is left marks the trades before. Assumes nothing.
use Rattle.base.specs.Basics.{refl, arith}
use Rattle.call_cancellation.proofs.Eligible.{marked_end, marked_first, marked_more, trade_in, trades_few, trades-length}
use Rattle.call_cancellation.proofs.marks_of.Goals as goal

pub loop-i-init : goal.loop-i-init
loop-i-init c = marked_first c.requires.0 c.requires.1

pub bounds-bearing_sellers-i : goal.bounds-bearing_sellers-i
bounds-bearing_sellers-i c = let q = c.requires.0 in
    omega (arith, c.loop-i.invariant.inside, trades-length q, trades_few q, c.loop-i-test.true)

pub bounds-bearing_buyers-i : goal.bounds-bearing_buyers-i
bounds-bearing_buyers-i c = let q = c.requires.0 in
    omega (arith, c.loop-i.invariant.inside, trades-length q, trades_few q, c.loop-i-test.true)

pub eligible_at-eligible-requires : goal.eligible_at-eligible-requires
eligible_at-eligible-requires c = let q = c.requires.0 in
    trade_in q (omega (arith, c.loop-i.invariant.inside, trades-length q, c.loop-i-test.true))

pub bounds-marks-i : goal.bounds-marks-i
bounds-marks-i c = let q = c.requires.0 in
    omega (arith, c.loop-i.invariant.inside, trades-length q, trades_few q, c.loop-i-test.true)

pub loop-i-preserved : goal.loop-i-preserved
loop-i-preserved c = marked_more c.requires.0 c.loop-i.invariant c.loop-i-test.true refl refl c.eligible_at-eligible.ensures c.is_marked.ensures c.left_before-rest.ensures

pub returns : goal.returns
returns c = marked_end c.requires.0 c.loop-i.invariant (omega (arith, c.loop-i-test.false))
