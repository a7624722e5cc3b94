-- `bear_trades`: of the trades passed the places of those who bear the risk are listed, and what stands is counted at each. Assumes nothing.
use Rattle.base.specs.Basics.{◌≡◌, sym, ap, ◌∙◌, ◌<◌, arith, get_or}
use Rattle.book_format.specs.Book.{count_of_trades, trades_of}
use Rattle.book_records.specs.Trade.{as_trade}
use Rattle.rules.specs.Book.{Trade, no_trade}
use Rattle.risk_bearers.specs.Bearers.{bearer_in}
use Rattle.risk_bearers.proofs.Trades.{borne_bought, borne_end, borne_low, borne_sold, borne_start, borne_turn, buyer_low, seller_low, trade_area}
use Rattle.risk_bearers.proofs.bear_trades.Goals as goal
use Rattle.risk_bearers.proofs.bear_trades.Goals.{After-bearer_of-buyer, After-index, After-trade_at-t}

pub loop-i-init : goal.loop-i-init
loop-i-init c = borne_start c.args.book.now c.args.bearers.now c.requires.bearing_sellers_len.0 c.requires.bearing_sellers_len.1 c.requires.bearing_sellers_len.2

pub trade_at-t-requires : goal.trade_at-t-requires
trade_at-t-requires c = record { form = c.requires.book_in.0.accepted.held.form; begin = c.requires.book_in.1; inside = omega (arith, c.loop-i-test.true, c.requires.book_in.2) }

-- the trade is one of the book
inside : (c : goal.After-trade_at-t) → c.loop-i.i < count_of_trades c.args.book.now
inside c = omega (arith, c.loop-i-test.true, c.requires.book_in.2)

-- its area
area-is : (c : goal.After-trade_at-t) → c.trade_at-t.result.area ≡ (get_or (trades_of c.args.book.now) c.loop-i.i no_trade).terms.area
unfolding as_trade
area-is c = ap (λ (t : Trade). t.terms.area) c.trade_at-t.ensures

pub bearer_of-seller-requires : goal.bearer_of-seller-requires
bearer_of-seller-requires c = let a = c.args in
    let b = c.requires.book_in.0 in (
      omega (arith, b.accepted.held.form.users, seller_low a.book.now a.bearers.now a.sellers.now a.buyers.now b c.requires.book_in.3.bearers (inside (goal.at.bearer_of-seller-requires c).After-trade_at-t)),
      omega (arith, area-is (goal.at.bearer_of-seller-requires c).After-trade_at-t, trade_area a.book.now a.bearers.now a.sellers.now a.buyers.now b c.requires.book_in.3.bearers (inside (goal.at.bearer_of-seller-requires c).After-trade_at-t)),
    )

pub bearer_of-buyer-requires : goal.bearer_of-buyer-requires
bearer_of-buyer-requires c = let a = c.args in
    let b = c.requires.book_in.0 in (
      omega (arith, b.accepted.held.form.users, buyer_low a.book.now a.bearers.now a.sellers.now a.buyers.now b c.requires.book_in.3.bearers (inside (goal.at.bearer_of-buyer-requires c).After-trade_at-t)),
      omega (arith, area-is (goal.at.bearer_of-buyer-requires c).After-trade_at-t, trade_area a.book.now a.bearers.now a.sellers.now a.buyers.now b c.requires.book_in.3.bearers (inside (goal.at.bearer_of-buyer-requires c).After-trade_at-t)),
    )

-- who bears the risk of its parties, as they are counted
seller-is : (c : goal.After-index) → let a = c.args in
    c.index.result ≡ bearer_in a.bearers.now (get_or a.sellers.now c.loop-i.i 0) (get_or (trades_of a.book.now) c.loop-i.i no_trade).terms.area
seller-is c = let a = c.args in
    c.index.ensures.0 ∙ c.bearer_of-seller.ensures ∙ ap (bearer_in a.bearers.now (get_or a.sellers.now c.loop-i.i 0)) (area-is (goal.at.After-index c).After-trade_at-t)

buyer-is : (c : goal.After-bearer_of-buyer) → let a = c.args in
    c.bearer_of-buyer.result ≡ bearer_in a.bearers.now (get_or a.buyers.now c.loop-i.i 0) (get_or (trades_of a.book.now) c.loop-i.i no_trade).terms.area
buyer-is c = let a = c.args in
    c.bearer_of-buyer.ensures ∙ ap (bearer_in a.bearers.now (get_or a.buyers.now c.loop-i.i 0)) (area-is (goal.at.After-bearer_of-buyer c).After-trade_at-t)

pub add_trade-requires : goal.add_trade-requires
add_trade-requires c = let a = c.args in
    let e = c.requires.book_in.3 in
    borne_sold a.book.now a.bearers.now a.sellers.now a.buyers.now c.requires.book_in.0 e.bearers (inside (goal.at.add_trade-requires c).After-trade_at-t) e.borne (seller-is c)
    (buyer-is (goal.at.add_trade-requires c).After-bearer_of-buyer) (c.loop-i.invariant.passed e.trades e.borne) c.trade_at-t.ensures

pub add_trade-requires-in-loop-i : goal.add_trade-requires-in-loop-i
add_trade-requires-in-loop-i c = let a = c.args in
    let e = c.requires.book_in.3 in
    borne_bought a.book.now a.bearers.now a.sellers.now a.buyers.now c.requires.book_in.0 e.bearers (inside (goal.at.add_trade-requires-in-loop-i c).After-trade_at-t) e.borne
    (seller-is (goal.at.add_trade-requires-in-loop-i c).After-index) (c.index-in-loop-i.ensures.0 ∙ buyer-is (goal.at.add_trade-requires-in-loop-i c).After-bearer_of-buyer) (c.loop-i.invariant.passed e.trades e.borne)
    c.trade_at-t.ensures c.add_trade.ensures

pub loop-i-preserved : goal.loop-i-preserved
loop-i-preserved c = let a = c.args in
    borne_turn a.book.now a.bearers.now a.sellers.now a.buyers.now c.requires.book_in.0 c.requires.book_in.3.bearers (inside (goal.at.loop-i-preserved c).After-trade_at-t) c.loop-i.invariant
    c.trade_at-t.ensures (sym c.index.ensures.0 ∙ seller-is (goal.at.loop-i-preserved c).After-index) (buyer-is (goal.at.loop-i-preserved c).After-bearer_of-buyer)
    c.index.ensures.0 c.index-in-loop-i.ensures.0 c.add_trade.ensures c.add_trade-in-loop-i.ensures

pub returns : goal.returns
returns c = let a = c.args in
    let e = c.requires.book_in.3 in
    let last : c.loop-i.i ≡ count_of_trades a.book.now = omega (arith, c.loop-i-test.false, c.requires.book_in.2) in
    record {
      summed_at = (λ rs borne. borne_end a.book.now a.bearers.now a.sellers.now a.buyers.now c.requires.book_in.0 e.bearers last c.loop-i.invariant borne);
      low = borne_low a.book.now
          a.bearers.now a.sellers.now a.buyers.now c.requires.book_in.0 e.bearers last c.loop-i.invariant e.borne;
    }
