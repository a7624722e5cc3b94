-- `valid_trades`: the trades that are left have the whole answer, until one is not valid or none is left; a party is a user where it was found,
-- of those passed the places of the parties are listed, what stands is summed at each, and the zero bytes are 0. Assumes nothing.
use Rattle.base.specs.Basics.{◌≡◌, refl, Bool, true, ◌≤◌, arith, length, take, length-take}
use Rattle.book_records.specs.Trade.{as_trade}
use Rattle.book_sums.specs.Twelve.{Addable}
use Rattle.book_questions.specs.Asked.{trade_among}
use Rattle.book_questions.proofs.Asking.{trades_walk_start, trades_walk_no, trades_walk_sold, trades_walk_bought, trades_walk_turn, trades_walk_zero, trades_walk_end}
use Rattle.book_questions.proofs.Known.{trade_found, trade_no_buyer, trade_no_seller}
use Rattle.book_questions.proofs.valid_trades.Goals as goal
use Rattle.book_questions.proofs.valid_trades.Goals.{After-trade_valid, Start}

-- there are n ids
ids-there : (c : goal.Start) → c.args.n ≤ length c.args.ids.now
ids-there c = omega (arith, c.requires.padded.0.few, c.requires.padded.0.full)

-- the trade that was read is valid between the ids as the answer says
asked : {answer : Bool} (c : goal.After-trade_valid) → c.trade_valid.result ≡ answer
    → trade_among (take c.args.n c.args.ids.now) (as_trade c.read_trade-t.result) ≡ answer
unfolding as_trade
asked c e = trade_found c.args.ids.now c.args.n _ (ids-there (goal.at.After-trade_valid c).Start) c.in-Some.ensures refl c.in-Some-find.ensures refl c.trade_valid.ensures e

-- where it is, it can be counted for its seller
addable : (c : goal.After-trade_valid) → c.trade_valid.result ≡ true → Addable 0 c.in-Some.seller (as_trade c.read_trade-t.result) c.loop-i.sums
unfolding as_trade
addable c e = trades_walk_sold c.loop-i.invariant (omega (arith, c.loop-i-test.true)) refl c.read_trade-t.ensures (rw length-take (omega (arith, c.requires.padded.0.few))) c.requires.m_bound.0
    (asked c e) c.in-Some.ensures.stands c.in-Some-find.ensures.stands

pub loop-i-init : goal.loop-i-init
loop-i-init c = trades_walk_start c.requires.m_bound.2 c.requires.m_bound.3 c.requires.m_bound.4

pub returns-in_default : goal.returns-in_default
unfolding as_trade
returns-in_default c = trades_walk_no c.loop-i.invariant (omega (arith, c.loop-i-test.true)) refl c.read_trade-t.ensures
    (trade_no_seller c.args.ids.now c.args.n _ (ids-there (goal.at.returns-in_default c).Start) c.in_default.ensures refl)

pub returns-in_default-find : goal.returns-in_default-find
unfolding as_trade
returns-in_default-find c = trades_walk_no c.loop-i.invariant (omega (arith, c.loop-i-test.true)) refl c.read_trade-t.ensures
    (trade_no_buyer c.args.ids.now c.args.n _ (ids-there (goal.at.returns-in_default-find c).Start) c.in-Some.ensures refl c.in_default-find.ensures refl)

pub returns-then-not-trade_valid : goal.returns-then-not-trade_valid
unfolding as_trade
returns-then-not-trade_valid c = trades_walk_no c.loop-i.invariant (omega (arith, c.loop-i-test.true)) refl c.read_trade-t.ensures
    (asked (goal.at.returns-then-not-trade_valid c).After-trade_valid c.if-not-trade_valid.true)

pub returns-then-zero-ne0 : goal.returns-then-zero-ne0
unfolding as_trade
returns-then-zero-ne0 c = trades_walk_zero c.loop-i.invariant (omega (arith, c.loop-i-test.true)) refl c.read_trade-t.ensures
    c.get_u8-zero.ensures c.if-zero-ne0.true c.leading_trades-read.ensures

pub add_trade-requires : goal.add_trade-requires
add_trade-requires c = addable (goal.at.add_trade-requires c).After-trade_valid c.if-not-trade_valid.false

pub add_trade-requires-in-loop-i : goal.add_trade-requires-in-loop-i
unfolding as_trade
add_trade-requires-in-loop-i c = trades_walk_bought c.loop-i.invariant (omega (arith, c.loop-i-test.true)) refl c.read_trade-t.ensures (rw length-take (omega (arith, c.requires.padded.0.few))) c.requires.m_bound.0
    (asked (goal.at.add_trade-requires-in-loop-i c).After-trade_valid c.if-not-trade_valid.false) c.in-Some.ensures.stands c.in-Some-find.ensures.stands c.add_trade.ensures

pub loop-i-preserved : goal.loop-i-preserved
unfolding as_trade
loop-i-preserved c = trades_walk_turn c.loop-i.invariant (omega (arith, c.loop-i-test.true)) refl c.read_trade-t.ensures (rw length-take (omega (arith, c.requires.padded.0.few))) c.requires.m_bound.0
    (asked (goal.at.loop-i-preserved c).After-trade_valid c.if-not-trade_valid.false) c.in-Some.ensures.stands c.in-Some-find.ensures.stands
    c.add_trade.ensures c.add_trade-in-loop-i.ensures c.get_u8-zero.ensures c.if-zero-ne0.false

pub returns : goal.returns
returns c = trades_walk_end c.loop-i.invariant (omega (arith, c.loop-i-test.false)) c.requires.m_bound.0
