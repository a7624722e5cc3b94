-- `count_seen`: what is counted and what is left to look at have the whole count. Assumes nothing.
use Rattle.base.specs.Basics.{◌<◌, arith}
use Rattle.laws.proofs.Positions.{buyer_known, seller_known}
use Rattle.book_format.proofs.Passed.{length-trades_of}
use Rattle.book_format.specs.Book.{book_of, count_of_trades, trades_of, users_of}
use Rattle.rules.specs.Book.{no_trade}
use Rattle.std.proofs.Common.{refl}
use Rattle.views.specs.Views.{sees_trade, trades_seen}
use Rattle.call_told.proofs.Seen.{area_in, counted_next, uncounted_next, none_left, party_in}
use Rattle.call_told.proofs.count_seen.Goals as goal
use Rattle.call_told.proofs.count_seen.Goals.{In-loop-i, then-sees, else-sees}

-- the trade that is looked at is one of the book
inside : (c : goal.In-loop-i) → c.loop-i.i < count_of_trades c.args.book.now
inside c = omega (arith, c.loop-i-test.true, c.trade_count-m.ensures)

pub trades_offset-at-requires : goal.trades_offset-at-requires
trades_offset-at-requires c = (c.requires.0.accepted.held.form, c.user_count-n.ensures)

pub sees-requires : goal.sees-requires
sees-requires c = let b = c.requires.0 in
    let k = inside (goal.at.sees-requires c).In-loop-i in (
      record { form = b.accepted.held.form; begin = c.trades_offset-at.ensures; inside = k },
      party_in (λ r. r.seller) seller_known _ _ b.accepted b.placed.of_sellers _ k refl,
      party_in (λ r. r.buyer) buyer_known _ _ b.accepted b.placed.of_buyers _ k refl,
      area_in b.accepted k,
      c.requires.1,
    )

pub loop-i-preserved : goal.loop-i-preserved
loop-i-preserved c = let k = inside (goal.at.loop-i-preserved c).In-loop-i in
    elim c.if-sees.branch [
      | then-sees w ↦ rw w.count-is (counted_next c.requires.0 _ k refl refl c.sees.ensures c.loop-i.invariant w.if-sees.true)
      | else-sees w ↦ rw w.count-is (uncounted_next c.requires.0 _ k refl refl c.sees.ensures c.loop-i.invariant w.if-sees.false)
    ]

pub returns : goal.returns
unfolding trades_seen book_of
returns c = let s = c.args.book.now in
    let n = none_left (sees_trade (users_of s) c.args.id) no_trade (trades_of s) c.loop-i.i 0 (omega (arith, c.loop-i-test.false, c.trade_count-m.ensures, length-trades_of s)) in
    omega (arith, n.0, c.loop-i.invariant.whole)

pub user_count-n-requires : goal.user_count-n-requires
user_count-n-requires c = omega (arith, c.requires.0.accepted.held.form.head)

pub trade_count-m-requires : goal.trade_count-m-requires
trade_count-m-requires c = omega (arith, c.requires.0.accepted.held.form.head)

pub loop-i-init : goal.loop-i-init
loop-i-init c = record { few = omega arith; whole = omega arith }
