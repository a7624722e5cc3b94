-- `read_trades` reads one record more at each turn, from where the last one ended, into an array that is blank past it. Assumes nothing.
use Rattle.base.specs.Basics.{arith, length-take, length-drop}
use Rattle.book_tables.proofs.RecordsRead.{reading_start, reading_turn, reading_end}
use Rattle.book_tables.proofs.read_trades.Goals as goal

pub loop-i-preserved : goal.loop-i-preserved
loop-i-preserved c = reading_turn c.loop-i.invariant (omega arith) (omega arith) c.read_trade.ensures

pub loop-i-init : goal.loop-i-init
loop-i-init c = reading_start c.no_trade-blank.ensures

pub read_trade-requires : goal.read_trade-requires
read_trade-requires c = simp (length-take, length-drop) (omega arith)

pub returns : goal.returns
returns c = reading_end c.loop-i.invariant (omega arith)
