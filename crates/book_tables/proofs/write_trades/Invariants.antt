use Rattle.book_records.specs.Trade.{trade_bytes, as_trade}
use Rattle.book_tables.proofs.RecordsWritten.{Writing}
use Rattle.book_tables.proofs.write_trades.Given as goal

abbrev pub invariant-loop-i : goal.invariant-loop-i
invariant-loop-i l = Writing (λ t. trade_bytes (as_trade t)) 20 l.trades l.initial.out l.at l.n l.out l.i l.a
