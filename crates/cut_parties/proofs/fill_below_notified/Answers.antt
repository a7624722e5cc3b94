-- `fill_below_notified`: the parties of the trades passed that stand below notified have their flags. Assumes nothing.
use Rattle.base.specs.Basics.{refl, ◌≤◌, arith}
use Rattle.book_format.specs.Book.{count_of_trades}
use Rattle.risk_bearers.proofs.Borne.{buyer_within, seller_within}
use Rattle.book_records.specs.Trade.{as_trade}
use Rattle.cut_parties.proofs.Cut.{cut_end, cut_more, cut_start}
use Rattle.cut_parties.proofs.fill_below_notified.Goals as goal

pub loop-i-init : goal.loop-i-init
loop-i-init c = let a = c.args in
    cut_start a.book.now c.requires.borne_in.0.accepted.held.form.users c.requires.below_notified_value

pub trades_offset-at-requires : goal.trades_offset-at-requires
trades_offset-at-requires c = (c.requires.borne_in.0.accepted.held.form, c.requires.borne_in.1)

pub trade_at-t-requires : goal.trade_at-t-requires
trade_at-t-requires c = record { form = c.requires.borne_in.0.accepted.held.form; begin = c.trades_offset-at.ensures; inside = omega (arith, c.loop-i-test.true, c.requires.borne_in.2) }

pub bounds-below_notified-seller : goal.bounds-below_notified-seller
bounds-below_notified-seller c = let a = c.args in
    omega (
      arith,
      c.requires.borne_in.0.accepted.held.form.users,
      seller_within a.book.now a.bearing_sellers.now a.bearing_buyers.now c.requires.borne_in.0 (omega (arith, c.loop-i-test.true, c.requires.borne_in.2))
          c.index-seller.ensures.0,
    )

pub bounds-below_notified-seller-in-loop-i : goal.bounds-below_notified-seller-in-loop-i
bounds-below_notified-seller-in-loop-i c = let a = c.args in
    omega (
      arith,
      c.requires.borne_in.0.accepted.held.form.users,
      seller_within a.book.now a.bearing_sellers.now a.bearing_buyers.now c.requires.borne_in.0 (omega (arith, c.loop-i-test.true, c.requires.borne_in.2))
          c.index-seller.ensures.0,
    )

pub bounds-below_notified-buyer : goal.bounds-below_notified-buyer
bounds-below_notified-buyer c = let a = c.args in
    omega (
      arith,
      c.requires.borne_in.0.accepted.held.form.users,
      buyer_within a.book.now a.bearing_sellers.now a.bearing_buyers.now c.requires.borne_in.0
          (omega (arith, c.loop-i-test.true, c.requires.borne_in.2)) c.index-buyer.ensures.0,
    )

pub bounds-below_notified-buyer-in-loop-i : goal.bounds-below_notified-buyer-in-loop-i
bounds-below_notified-buyer-in-loop-i c = let a = c.args in
    omega (
      arith,
      c.requires.borne_in.0.accepted.held.form.users,
      buyer_within a.book.now a.bearing_sellers.now a.bearing_buyers.now c.requires.borne_in.0
          (omega (arith, c.loop-i-test.true, c.requires.borne_in.2)) c.index-buyer.ensures.0,
    )

pub loop-i-preserved : goal.loop-i-preserved
unfolding as_trade
loop-i-preserved c = let a = c.args in
    cut_more a.book.now c.loop-i.invariant a.bearing_sellers.now
    a.bearing_buyers.now c.requires.borne_in.0 (omega (arith, c.loop-i-test.true, c.requires.borne_in.2)) c.index-seller.ensures.0
    c.index-buyer.ensures.0 c.trade_at-t.ensures refl

pub returns : goal.returns
returns c = let a = c.args in
    let all : count_of_trades a.book.now ≤ c.loop-i.i = omega (arith, c.loop-i-test.false, c.requires.borne_in.2) in
    cut_end a.book.now c.loop-i.invariant all
