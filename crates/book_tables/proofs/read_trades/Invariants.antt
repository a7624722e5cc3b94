use Rattle.book_records.specs.Trade.{trade_of, as_trade, blank_trade}
use Rattle.book_tables.proofs.RecordsRead.{Reading}
use Rattle.book_tables.proofs.read_trades.Given as goal

abbrev pub invariant-loop-i : goal.invariant-loop-i
invariant-loop-i l = Reading as_trade 20 trade_of 256 blank_trade l.s l.at l.n l.trades l.i l.a
