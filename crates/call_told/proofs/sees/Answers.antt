-- `sees`: the seller's user, then the buyer's. Assumes nothing.
use Rattle.base.specs.Basics.{◌∙◌, sym}
use Rattle.book_records.specs.Trade.{as_trade}
use Rattle.call_told.specs.Seen.{sees_at}
use Rattle.call_told.proofs.Stands.{first_stands, second_stands}
use Rattle.call_told.proofs.sees.Goals as goal

pub trade_at-t-requires : goal.trade_at-t-requires
trade_at-t-requires c = c.requires.0

pub stands_for-requires : goal.stands_for-requires
unfolding as_trade
stands_for-requires c = (c.requires.1, rw (← c.trade_at-t.ensures) at c.requires.3, c.requires.4)

pub returns-then-stands_for : goal.returns-then-stands_for
unfolding sees_at as_trade
returns-then-stands_for c = rw (← c.trade_at-t.ensures) (first_stands _ _ (sym c.stands_for.ensures ∙ c.if-stands_for.true))

pub stands_for-requires-2 : goal.stands_for-requires-2
unfolding as_trade
stands_for-requires-2 c = (c.requires.2, rw (← c.trade_at-t.ensures) at c.requires.3, c.requires.4)

pub returns : goal.returns
unfolding sees_at as_trade
returns c = rw (← c.trade_at-t.ensures) (c.stands_for-2.ensures ∙ second_stands _ _ (sym c.stands_for.ensures ∙ c.if-stands_for.false))
