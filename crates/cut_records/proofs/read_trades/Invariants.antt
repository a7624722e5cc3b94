use Rattle.base.proofs.Rewriting.{Rewritten}
use Rattle.book_format.specs.Book.{trades_of}
use Rattle.book_records.specs.Trade.{as_trade}
use Rattle.cut_records.specs.Places.{at_places}
use Rattle.cut_records.proofs.read_trades.Given as goal

abbrev pub invariant-loop-k : goal.invariant-loop-k
invariant-loop-k g l = Rewritten as_trade g.row.N (at_places (trades_of l.book) l.origins) l.trades l.k
