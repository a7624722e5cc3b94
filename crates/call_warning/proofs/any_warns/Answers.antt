-- `any_warns`: what is left to look at has the whole answer, until a trade warns or none is left. Assumes nothing.
use Rattle.base.specs.Basics.{◌≡◌, sym, ap, subst, ◌∙◌, refl, ◌<◌, arith, T, get_or}
use Rattle.rules.specs.Book.{Trade, no_trade}
use Rattle.rules.specs.Questions.{trade_is_valid}
use Rattle.base.proofs.Fronts.{all_at}
use Rattle.book_format.proofs.Held.{accepted_trades}
use Rattle.units.specs.Limits.{as_limits}
use Rattle.book_format.specs.Book.{book_of, count_of_trades, trades_of, users_of}
use Rattle.book_format.specs.Questions.{Formed}
use Rattle.book_format.proofs.Passed.{length-trades_of, passed}
use Rattle.call_warning.specs.Warned.{buyer_is_warned}
use Rattle.call_warning.proofs.Ways.{none_warned, unwarned_next, warned_here}
use Rattle.call_warning.proofs.any_warns.Goals as goal
use Rattle.call_warning.proofs.any_warns.Goals.{After-warns_buyer, In-loop-i, Start}

form : (c : goal.Start) → Formed c.args.book.now
form c = (passed c.args.book.now c.requires.priced.passes).form

pub user_count-n-requires : goal.user_count-n-requires
user_count-n-requires c = omega (arith, (form (goal.at.user_count-n-requires c).Start).head)

pub trade_count-m-requires : goal.trade_count-m-requires
trade_count-m-requires c = omega (arith, (form (goal.at.trade_count-m-requires c).Start).head)

pub trades_offset-at-requires : goal.trades_offset-at-requires
trades_offset-at-requires c = (form (goal.at.trades_offset-at-requires c).Start, c.user_count-n.ensures)

pub loop-i-init : goal.loop-i-init
loop-i-init c = record { within = omega arith; left = refl }

-- the trade that is looked at is one of the book
inside : (c : goal.In-loop-i) → c.loop-i.i < count_of_trades c.args.book.now
inside c = omega (arith, c.loop-i-test.true, c.trade_count-m.ensures)

pub trade_at-t-requires : goal.trade_at-t-requires
trade_at-t-requires c = record { form = form (goal.at.trade_at-t-requires c).Start; begin = c.trades_offset-at.ensures; inside = inside (goal.at.trade_at-t-requires c).In-loop-i }

pub warns_buyer-requires : goal.warns_buyer-requires
warns_buyer-requires c = let s = c.args.book.now in
    record {
      priced = (
        c.requires.priced,
        subst (λ (t : Trade). T (trade_is_valid (users_of s) t)) (sym c.trade_at-t.ensures)
            (all_at (trade_is_valid (users_of s)) (trades_of s) (accepted_trades c.requires.priced.accepted) c.loop-i.i no_trade
            (omega (arith, inside (goal.at.warns_buyer-requires c).In-loop-i, length-trades_of s))),
      );
      limits_in_range = c.requires.limits_in_range;
    }

-- the test of the next trade
told : (c : goal.After-warns_buyer) → let a = c.args in
    buyer_is_warned (as_limits a.day.limits) (book_of a.book.now) a.id (get_or (trades_of a.book.now) c.loop-i.i no_trade) ≡ c.warns_buyer.result
told c = let a = c.args in
    sym (c.warns_buyer.ensures ∙ ap (buyer_is_warned (as_limits a.day.limits) (book_of a.book.now) a.id) c.trade_at-t.ensures)

pub returns-then-warns_buyer : goal.returns-then-warns_buyer
unfolding book_of
returns-then-warns_buyer c = let g = goal.at.returns-then-warns_buyer c in
    warned_here _ _ c.loop-i.invariant (inside g.In-loop-i) (told g.After-warns_buyer ∙ c.if-warns_buyer.true)

pub loop-i-preserved : goal.loop-i-preserved
loop-i-preserved c = let g = goal.at.loop-i-preserved c in
    unwarned_next _ _ c.loop-i.invariant (inside g.In-loop-i) (told g.After-warns_buyer ∙ c.if-warns_buyer.false)

pub returns : goal.returns
unfolding book_of
returns c = none_warned _ _ c.loop-i.invariant (omega (arith, c.loop-i-test.false, c.trade_count-m.ensures))
