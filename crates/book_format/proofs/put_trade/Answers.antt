-- `put_trade`: the trade's bytes in the place of the 20 that were there. A struct's fields fit their bytes. Assumes nothing.
use Rattle.book_records.specs.Trade.{FitsTrade, as_trade}
use Rattle.book_format.proofs.Places.{trade_put}
use Rattle.book_format.proofs.put_trade.Goals as goal
use Rattle.book_format.proofs.put_trade.Goals.{Start}

-- the struct's fields have the widths of the bytes
fits : (c : goal.Start) → FitsTrade (as_trade c.args.t)
unfolding as_trade
fits c = let f = c.well_formed.1.1.1.0.1.1 in
    record {
      seller = f.0.1;
      buyer = f.1.0.1;
      area = f.1.1.0.1;
      kind = f.1.1.1.0.1;
      day = f.1.1.1.1.0.1;
      notified = f.1.1.1.1.1.0.1.1.0.1;
      standing = f.1.1.1.1.1.1.0.1.1.0.1;
    }

pub returns : goal.returns
returns c = trade_put c.requires.trade_in c.requires.held_as (as_trade c.args.t) c.trade_offset-a.ensures.0 (fits (goal.at.returns c).Start) c.write_trade.ensures
