-- `lost_of`: the sales passed have what they have lost. Assumes nothing.
use Rattle.base.specs.Basics.{arith}
use Rattle.run_book.proofs.Losing.{lost_end, lost_fits, lost_more, lost_start}
use Rattle.run_book.proofs.lost_of.Goals as goal

pub loop-i-init : goal.loop-i-init
loop-i-init c = lost_start c.requires

pub overflow_sub-left : goal.overflow_sub-left
overflow_sub-left c = omega (arith, lost_fits c.requires c.loop-i.invariant c.loop-i-test.true)

pub loop-i-preserved : goal.loop-i-preserved
loop-i-preserved c = lost_more c.requires c.loop-i.invariant c.loop-i-test.true

pub returns : goal.returns
returns c = lost_end c.requires c.loop-i.invariant c.loop-i-test.false
