-- `header_valid` joins what the calendar, the prices and the selling tariffs answer. Assumes nothing.
use Rattle.rules.specs.Questions.{header_is_valid}
use Rattle.book_header.proofs.header_valid.Goals as goal

pub returns : goal.returns
unfolding header_is_valid
returns c = rw (c.is_real_day-day.ensures, c.prices_valid-prices.ensures, c.selling_valid-selling.ensures)
