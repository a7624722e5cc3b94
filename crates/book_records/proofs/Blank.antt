-- The structs whose every field is 0 are the rules' user and trade whose every field is 0. A signed amount of 0 is the number 2^31 in a `Net` and 2^63 in a `Balance`:
-- "0" is said of the amount, not of the number that holds it. Assumes nothing.
use Rattle.base.specs.Basics.{◌≡◌, refl}
use Rattle.rules.specs.Book.{nobody, no_trade}
use Rattle.units.specs.Amounts.{net, balance}
use Rattle.book_records.specs.Trade.{as_trade, blank_trade}
use Rattle.book_records.specs.User.{as_user, as_amounts, blank_user}

pub blank_nobody : as_user blank_user ≡ nobody
unfolding as_user as_amounts blank_user nobody net balance
blank_nobody = refl

pub blank_no_trade : as_trade blank_trade ≡ no_trade
unfolding as_trade blank_trade
blank_no_trade = refl
