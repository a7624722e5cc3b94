-- `copy_trades` lends where the trades stand and where they go; trades that are read and written again are their bytes with the zero byte as 0. Assumes nothing.
use Rattle.book_records.specs.Trade.{trade_of, trade_bytes}
use Rattle.book_records.proofs.Trades.{length-trade_bytes}
use Rattle.book_image.proofs.Zeroed.{trade_zeroed}
use Rattle.book_image.proofs.Turns.{records_copied}
use Rattle.book_image.proofs.copy_trades.Goals as goal

pub returns : goal.returns
returns c = let a = c.args in
    records_copied 20 trade_of 1 11 trade_bytes trade_zeroed length-trade_bytes a.s.now a.from a.m a.out.now a.at (λ i. (c.type_inv.s i).fits) c.requires.0 c.requires.1 c.copy_records.ensures
