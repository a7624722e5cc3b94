-- `is_within` joins the comparison with the kind of the trade. Assumes nothing.
use Rattle.book_records.specs.Trade.{as_trade}
use Rattle.log_format.specs.Fits.{raise_within}
use Rattle.log_questions.proofs.is_within.Goals as goal

pub returns : goal.returns
unfolding raise_within as_trade
returns c = rw c.is_bilateral_for_day-bilateral.ensures
