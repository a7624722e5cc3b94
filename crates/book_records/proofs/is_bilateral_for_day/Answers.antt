-- Kind and day are tested as the rules do.
use Rattle.std.proofs.Common.{refl}
use Rattle.rules.specs.Book.{bilateral_for_day}
use Rattle.book_records.specs.Trade.{as_trade}
use Rattle.book_records.proofs.is_bilateral_for_day.Goals as goal

pub returns : goal.returns
unfolding bilateral_for_day as_trade
returns c = refl
