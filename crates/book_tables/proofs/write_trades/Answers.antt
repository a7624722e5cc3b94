-- `write_trades` writes one record more at each turn, to where the last one ended. Assumes nothing.
use Rattle.base.specs.Basics.{arith, length-take, length-drop, rules}
use Rattle.book_records.specs.Trade.{as_trade}
use Rattle.book_records.proofs.Trades.{length-trade_bytes}
use Rattle.book_tables.proofs.RecordsWritten.{writing_start, writing_turn, writing_end}
use Rattle.book_tables.proofs.write_trades.Goals as goal

pub loop-i-preserved : goal.loop-i-preserved
loop-i-preserved c = writing_turn _ (λ t. length-trade_bytes (as_trade t)) c.loop-i.invariant (omega arith) (search rules) (omega arith)
    c.write_trade.ensures

pub loop-i-init : goal.loop-i-init
loop-i-init c = writing_start

pub write_trade-requires : goal.write_trade-requires
write_trade-requires c = simp (length-take, length-drop) (omega arith)

pub shape_of-out : goal.shape_of-out
shape_of-out c = c.loop-i.invariant.kept

pub returns : goal.returns
returns c = (writing_end c.loop-i.invariant (omega arith), search rules)
