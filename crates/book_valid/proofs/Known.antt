-- The test of a trade by itself is that of the rules, once the users have answered for both parties. Assumes nothing.
use mathlib.Core.Path.{◌≡◌, refl}
use mathlib.Core.List.{List}
use Rattle.rules.specs.Book.{User, Trade}
use Rattle.rules.specs.Questions.{known, parties_valid, trade_is_valid}
use Rattle.book_valid.specs.Given.{trade_is_valid_given}

pub trade_is_valid_given-known : (us : List User) (t : Trade) → trade_is_valid_given (known us t.terms.seller) (known us t.terms.buyer) t ≡ trade_is_valid us t
unfolding trade_is_valid_given trade_is_valid parties_valid
trade_is_valid_given-known us t = refl
