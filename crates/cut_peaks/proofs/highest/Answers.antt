-- `highest`: no sale passed stands above it. Assumes nothing.
use Rattle.base.specs.Basics.{arith}
use Rattle.cut_peaks.proofs.Cutting.{highest_end, highest_more, highest_start}
use Rattle.cut_peaks.proofs.highest.Goals as goal

pub amount_at-requires : goal.amount_at-requires
amount_at-requires c = (omega (arith, c.requires.inside, c.loop-i-test.true), c.requires.area_most c.loop-i.i c.loop-i.invariant.0 c.loop-i-test.true)

pub loop-i-preserved : goal.loop-i-preserved
loop-i-preserved c = (omega (arith, c.loop-i.invariant.0), highest_more c.loop-i.invariant.1 c.loop-i.invariant.0 (c.requires.standing_most c.loop-i.i c.loop-i.invariant.0 c.loop-i-test.true) c.amount_at.ensures c.max-most.ensures)

pub loop-i-init : goal.loop-i-init
loop-i-init c = (omega arith, highest_start c.args.from)

pub returns : goal.returns
returns c = highest_end c.loop-i-test.false c.loop-i.invariant.1
