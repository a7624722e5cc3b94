-- `leading_trades`: those passed are counted, until one is not valid or none is left. Assumes nothing.
use Rattle.base.specs.Basics.{◌≡◌, refl, Bool, ◌+◌, ◌*◌, ◌≤◌, arith, length, take, length-take, length-drop}
use Rattle.book_records.specs.Trade.{as_trade}
use Rattle.book_questions.specs.Asked.{trade_among}
use Rattle.book_questions.proofs.Asking.{count_end, count_no, count_turn}
use Rattle.book_questions.proofs.Known.{trade_given}
use Rattle.book_questions.proofs.Loops.{led_start}
use Rattle.book_questions.proofs.leading_trades.Goals as goal
use Rattle.book_questions.proofs.leading_trades.Goals.{After-trade_valid, In-loop-i}

-- the trade that was read is valid between the ids as the answer says
asked : {answer : Bool} (c : goal.After-trade_valid) → c.trade_valid.result ≡ answer
    → trade_among (take c.args.n c.args.ids.now) (as_trade c.read_trade-t.result) ≡ answer
unfolding as_trade
asked c e =
    trade_given c.args.ids.now c.args.n _ (omega (arith, c.requires.padded.0.few, c.requires.padded.0.full)) c.find-seller.ensures c.find-buyer.ensures
    (rw (← c.is_some.ensures, ← c.is_some-in-loop-i.ensures) c.trade_valid.ensures) e

-- the bytes of the trade at hand
lies : (c : goal.In-loop-i) → c.args.at + 20 * c.loop-i.i + 20 ≤ length c.args.s.now
lies c = omega (arith, c.loop-i-test.true, c.requires.m_bound.1)

pub returns-then-not-trade_valid : goal.returns-then-not-trade_valid
unfolding as_trade
returns-then-not-trade_valid c = count_no (take c.args.n c.args.ids.now) c.args.s.now c.args.at c.args.m c.loop-i.invariant.1 (omega (arith, c.loop-i-test.true)) refl
    c.read_trade-t.ensures (asked (goal.at.returns-then-not-trade_valid c).After-trade_valid c.if-not-trade_valid.true)

pub overflow_add-a-in-loop-i : goal.overflow_add-a-in-loop-i
overflow_add-a-in-loop-i c = omega (arith, lies (goal.at.overflow_add-a-in-loop-i c).In-loop-i, c.ranges)

pub loop-i-preserved : goal.loop-i-preserved
unfolding as_trade
loop-i-preserved c = (
  omega (arith, c.loop-i-test.true),
  count_turn (take c.args.n c.args.ids.now) c.args.s.now c.args.at c.args.m c.loop-i.invariant.1 (omega (arith, c.loop-i-test.true)) refl
      c.read_trade-t.ensures (asked (goal.at.loop-i-preserved c).After-trade_valid c.if-not-trade_valid.false),
)

pub returns : goal.returns
returns c = count_end (take c.args.n c.args.ids.now) c.args.s.now c.args.at c.args.m c.loop-i.invariant.1 (omega arith)

pub loop-i-init : goal.loop-i-init
loop-i-init c = (omega arith, led_start)

pub overflow_add-a : goal.overflow_add-a
overflow_add-a c = omega (arith, lies c, c.ranges)

pub slice_bounds-read_trade-end : goal.slice_bounds-read_trade-end
slice_bounds-read_trade-end c = omega (arith, lies c)

pub read_trade-t-requires : goal.read_trade-t-requires
read_trade-t-requires c = simp (length-take, length-drop) (omega (arith, lies (goal.at.read_trade-t-requires c).In-loop-i))

pub find-seller-requires : goal.find-seller-requires
find-seller-requires c = c.requires.padded

pub find-buyer-requires : goal.find-buyer-requires
find-buyer-requires c = c.requires.padded
