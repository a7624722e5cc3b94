-- `clear`: the cuts passed are 0. Assumes nothing.
use Rattle.run_turns.proofs.Rounds.{cleared_end, cleared_more, cleared_start}
use Rattle.run_turns.proofs.clear.Goals as goal

pub loop-i-preserved : goal.loop-i-preserved
loop-i-preserved c = cleared_more c.loop-i-test.true c.requires.1 c.loop-i.invariant

pub loop-i-init : goal.loop-i-init
loop-i-init c = cleared_start c.requires.0

pub returns : goal.returns
returns c = cleared_end c.loop-i-test.false c.loop-i.invariant
