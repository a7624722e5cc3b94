-- Every field is the number 0.
use Rattle.std.proofs.Common.{refl}
use Rattle.book_records.specs.Trade.{blank_trade}
use Rattle.book_records.proofs.no_trade.Goals as goal

pub returns : goal.returns
unfolding blank_trade
returns c = refl
