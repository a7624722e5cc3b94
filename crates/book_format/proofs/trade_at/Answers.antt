-- `trade_at`: the 20 bytes at the place are those of the trade. Assumes nothing.
use Rattle.book_format.proofs.Places.{trade_read}
use Rattle.book_format.proofs.trade_at.Goals as goal

pub returns : goal.returns
returns c = trade_read c.requires c.trade_offset-a.ensures.0 c.read_trade.ensures
