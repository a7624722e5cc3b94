-- `seal` writes the first bytes, and then the book behind them. Assumes nothing.
use Rattle.base.specs.Basics.{sym, arith, length-take-le}
use Rattle.log_entries.proofs.Parts.{sealed_parts}
use Rattle.log_entries.proofs.seal.Goals as goal

pub slice_bounds-put_head-end-2 : goal.slice_bounds-put_head-end-2
slice_bounds-put_head-end-2 c = sym (length-take-le 12 c.args.log.now (omega (arith, c.requires.0)))

pub returns : goal.returns
returns c = sealed_parts c.args.log.now c.args.book.now c.put_head.new.head c.put_held.new.part c.args.count c.requires.0 c.put_head.ensures c.put_held.ensures

pub put_head-requires : goal.put_head-requires
put_head-requires c = length-take-le 12 c.args.log.now (omega (arith, c.requires.0))
