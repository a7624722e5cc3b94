-- Each field is read from its own offset.
use Rattle.book_records.specs.Trade.{trade_of, as_trade}
use Rattle.book_records.proofs.read_trade.Goals as goal

pub returns : goal.returns
unfolding trade_of as_trade
returns c =
    rw
    (c.get_u32-4.ensures, c.get_u32-3.ensures, c.get_u8-3.ensures, c.get_u8-2.ensures, c.get_u8.ensures, c.get_u32-2.ensures, c.get_u32.ensures)
