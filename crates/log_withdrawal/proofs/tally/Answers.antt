-- `tally`: what is left to tally, tallied, gives the whole. Assumes nothing.
use Rattle.base.specs.Basics.{◌≡◌, sym, ap, ◌∙◌, ℕ, ◌+◌, ◌*◌, ◌<◌, arith, drop, get_or, length}
use Rattle.book_format.proofs.Passed.{length-trades_of}
use Rattle.book_format.specs.Book.{book_of}
use Rattle.book_records.specs.Trade.{as_trade}
use Rattle.cut_worth.specs.Tallies.{as_tally}
use Rattle.fields.proofs.Records.{length-records_of}
use Rattle.fields.specs.Field.{field}
use Rattle.log_questions.proofs.Cuts.{cut_field}
use Rattle.log_questions.specs.Form.{cuts_from}
use Rattle.rules.specs.Book.{Trade, no_trade}
use Rattle.rules.specs.Reduction.{tallied}
use Rattle.units.specs.Prices.{as_prices}
use Rattle.log_withdrawal.proofs.Back.{cut_low}
use Rattle.log_withdrawal.proofs.Tallies.{tallied_end, tallied_next, tallied_start}
use Rattle.log_withdrawal.proofs.tally.Goals as goal
use Rattle.log_withdrawal.proofs.tally.Goals.{After-get_u32-cut, After-trade_at-t, Start}

-- as many trades as cuts
trades-are : (c : goal.Start) → length (book_of c.args.book.now).trades ≡ c.args.m
unfolding book_of
trades-are c = length-trades_of c.args.book.now ∙ sym c.requires.accepted.2

cuts_are : (c : goal.Start) → length (cuts_from c.args.m 0 c.args.entry.now) ≡ c.args.m
cuts_are c = length-records_of 4 (field 4 0) c.args.m (drop 0 c.args.entry.now)

few : (c : goal.Start) → c.args.m < 257
few c = omega (arith, c.requires.accepted.2, c.requires.accepted.0.held.form.trades)

-- the cut that was read
cut-is : (c : goal.After-get_u32-cut) → c.get_u32-cut.result ≡ get_or (cuts_from c.args.m 0 c.args.entry.now) c.loop-k.k 0
cut-is c = let k = c.loop-k.k in
    let none : 4 * k ≡ 0 + 4 * k = omega arith in
    c.get_u32-cut.ensures ∙ ap (λ (n : ℕ). field 4 n c.args.entry.now) none ∙ sym
    (cut_field c.args.m 0 k c.args.entry.now c.loop-k-test.true)

-- the trade that was read
trade-is : (c : goal.After-trade_at-t) → as_trade c.trade_at-t.result ≡ get_or (book_of c.args.book.now).trades c.loop-k.k no_trade
unfolding book_of
trade-is c = c.trade_at-t.ensures

pub get_u32-cut-requires : goal.get_u32-cut-requires
get_u32-cut-requires c = omega (arith, few (goal.at.get_u32-cut-requires c).Start, c.requires.in_bounds.0)

pub trade_at-t-requires : goal.trade_at-t-requires
trade_at-t-requires c = record { form = c.requires.accepted.0.held.form; begin = c.requires.accepted.1; inside = omega (arith, c.loop-k-test.true, c.requires.accepted.2) }

pub tally_with-so_far-requires : goal.tally_with-so_far-requires
tally_with-so_far-requires c = let p = c.loop-k.invariant in
    let inside = c.loop-k-test.true in (
      c.requires.accepted.3,
      omega (arith, p.mwh, few (goal.at.tally_with-so_far-requires c).Start, inside),
      omega (arith, p.worth, few (goal.at.tally_with-so_far-requires c).Start, inside),
      omega (
        arith,
        cut-is (goal.at.tally_with-so_far-requires c).After-get_u32-cut,
        cut_low (book_of c.args.book.now) (cuts_from c.args.m 0 c.args.entry.now) c.requires.accepted.0.sound
            c.requires.in_bounds.1 c.loop-k.k (omega (arith, trades-are (goal.at.tally_with-so_far-requires c).Start, inside)),
      ),
    )

pub loop-k-preserved : goal.loop-k-preserved
unfolding as_trade
loop-k-preserved c = let l = c.loop-k in
    let inside = c.loop-k-test.true in
    let trade = get_or (book_of c.args.book.now).trades l.k no_trade in
    let area : trade.terms.area ≡ c.trade_at-t.result.area = sym (ap (λ (t : Trade). t.terms.area) (trade-is (goal.at.loop-k-preserved c).After-trade_at-t)) in
    tallied_next l.invariant (omega (arith, cuts_are (goal.at.loop-k-preserved c).Start, inside)) (omega (arith, trades-are (goal.at.loop-k-preserved c).Start, inside))
    (c.tally_with-so_far.ensures.result_value trade area ∙ ap (λ (n : ℕ). tallied (as_prices c.args.prices) n trade (as_tally l.so_far)) (cut-is (goal.at.loop-k-preserved c).After-get_u32-cut)) c.tally_with-so_far.ensures.mwh_bound

pub returns : goal.returns
returns c = tallied_end c.loop-k.invariant (omega (arith, c.loop-k-test.false, cuts_are (goal.at.returns c).Start))

pub loop-k-init : goal.loop-k-init
loop-k-init c = tallied_start c.none-so_far.ensures.result_value c.none-so_far.ensures.mwh_value

pub overflow_mul-k : goal.overflow_mul-k
overflow_mul-k c = omega (arith, few (goal.at.overflow_mul-k c).Start)
