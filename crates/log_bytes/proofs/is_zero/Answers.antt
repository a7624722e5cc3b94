-- `is_zero`: the answer so far, with that of the bytes left, is the whole one. Assumes nothing.
use Rattle.base.specs.Basics.{arith}
use Rattle.log_bytes.proofs.Walks.{answering_start, answering_next, answering_end, zeros_next, zeros_end}
use Rattle.log_bytes.proofs.is_zero.Goals as goal

pub loop-byte-preserved : goal.loop-byte-preserved
loop-byte-preserved c = answering_next _ _ c.loop-byte.invariant (zeros_next c.args.s.now c.loop-byte.byte-index (omega arith))

pub returns : goal.returns
returns c = answering_end c.loop-byte.invariant (zeros_end c.args.s.now c.loop-byte.byte-index (omega arith))

pub loop-byte-init : goal.loop-byte-init
loop-byte-init c = answering_start
