-- `warns_buyer` goes out at the first part of the definition that fails, and else by the seller. Assumes nothing.
use Rattle.base.specs.Basics.{sym, ap, ◌∙◌}
use Rattle.book_records.specs.Trade.{as_trade}
use Rattle.book_format.specs.Book.{book_of}
use Rattle.units.specs.Limits.{as_limits}
use Rattle.call_warning.specs.Warned.{flagged_shipper}
use Rattle.call_warning.proofs.Ways.{other_buyer, other_kind, nothing_stands, by_seller}
use Rattle.call_warning.proofs.warns_buyer.Goals as goal

pub returns-then-t-id : goal.returns-then-t-id
unfolding as_trade
returns-then-t-id c = let a = c.args in
    other_buyer (as_limits a.day.limits) (book_of a.book.now) a.id (as_trade a.t) c.if-t-id.true

pub returns-then-not-is_bilateral_for_day : goal.returns-then-not-is_bilateral_for_day
unfolding as_trade
returns-then-not-is_bilateral_for_day c = let a = c.args in
    other_kind (as_limits a.day.limits) (book_of a.book.now) a.id (as_trade a.t) c.if-t-id.false
    (sym c.is_bilateral_for_day.ensures ∙ c.if-not-is_bilateral_for_day.true)

pub returns-then-t-eq0 : goal.returns-then-t-eq0
unfolding as_trade
returns-then-t-eq0 c = let a = c.args in
    nothing_stands (as_limits a.day.limits) (book_of a.book.now) a.id (as_trade a.t) c.if-t-id.false
    (sym c.is_bilateral_for_day.ensures ∙ c.if-not-is_bilateral_for_day.false) c.if-t-eq0.true

pub bearer_of-seller-requires : goal.bearer_of-seller-requires
bearer_of-seller-requires c = (c.requires.priced.0.accepted, c.requires.priced.1)

pub is_flagged_shipper-requires : goal.is_flagged_shipper-requires
is_flagged_shipper-requires c = record { priced = (c.requires.priced.0, c.bearer_of-seller.ensures.1); limits_in_range = c.requires.limits_in_range }

pub returns : goal.returns
unfolding as_trade
returns c = let a = c.args in
    c.is_flagged_shipper.ensures
    ∙ ap (flagged_shipper (as_limits a.day.limits) (book_of a.book.now)) c.bearer_of-seller.ensures.0
    ∙ by_seller (as_limits a.day.limits) (book_of a.book.now) a.id (as_trade a.t) c.if-t-id.false
    (sym c.is_bilateral_for_day.ensures ∙ c.if-not-is_bilateral_for_day.false) c.if-t-eq0.false
