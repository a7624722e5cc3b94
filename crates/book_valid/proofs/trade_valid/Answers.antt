-- The tests of the rules are asked in their order.
use Rattle.rules.specs.Questions.{codes_valid, amounts_valid}
use Rattle.book_records.specs.Trade.{as_trade}
use Rattle.book_valid.specs.Given.{trade_is_valid_given}
use Rattle.book_valid.proofs.trade_valid.Goals as goal

pub returns : goal.returns
unfolding trade_is_valid_given codes_valid amounts_valid as_trade
returns c = rw c.is_bilateral_for_day-bilateral.ensures
