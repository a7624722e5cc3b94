-- The test of a trade, where it is known already whether its parties are users of the book. Assumes nothing.
use Rattle.std.specs.Prelude.{Bool, not, ◌&&◌, eqb}
use Rattle.rules.specs.Book.{Trade}
use Rattle.rules.specs.Questions.{codes_valid, amounts_valid}

-- "Every trade valid?", of one trade, given whether its seller and its buyer are users of the book
unfoldable pub trade_is_valid_given : Bool → Bool → Trade → Bool
trade_is_valid_given seller buyer t =
    ((seller && buyer) && not (eqb t.terms.seller t.terms.buyer)) && (codes_valid t && amounts_valid t)
