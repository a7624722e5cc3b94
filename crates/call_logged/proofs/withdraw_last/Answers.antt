-- `withdraw_last`: the cuts of the last entry are tallied and given back, the entry is dropped, and the log holds the book. Assumes nothing.
use Rattle.base.specs.Basics.{◌≡◌, refl, subst, sym, ◌≤◌, arith, length-take, length-drop}
use Rattle.book_format.proofs.Places.{header_lies}
use Rattle.book_format.specs.Book.{book_of, count_of_trades, trades_at, count_of_users}
use Rattle.fields.specs.Field.{AllBytes}
use Rattle.log_format.proofs.Read.{FitLog, fits_facts}
use Rattle.rules.specs.Calls.{answer_of_run}
use Rattle.risk_user.proofs.Accepted.{prices_in}
use Rattle.units.specs.Prices.{InRange, as_prices}
use Rattle.call_logged.proofs.LastEntry.{part_within, withdrawal_gives}
use Rattle.call_logged.proofs.withdraw_last.Goals as goal
use Rattle.call_logged.proofs.withdraw_last.Goals.{After-entry_offset-from, After-read_prices-prices, After-slice_known-2-1, After-trade_count-m, After-trades_offset-at, After-user_count-n, Start}

facts : (c : goal.Start) → FitLog c.args.log.now c.args.book.now
facts c = fits_facts c.args.log.now c.args.book.now c.requires.1

few : (c : goal.Start) → count_of_trades c.args.book.now ≤ 256
few c = c.requires.0.accepted.held.form.trades

-- what is read of the book
users-are : (c : goal.After-user_count-n) → c.user_count-n.result ≡ count_of_users c.args.book.now
users-are c = c.user_count-n.ensures

trades-are : (c : goal.After-trade_count-m) → c.trade_count-m.result ≡ count_of_trades c.args.book.now
trades-are c = c.trade_count-m.ensures

begin : (c : goal.After-trades_offset-at) → c.trades_offset-at.result ≡ trades_at c.args.book.now
begin c = c.trades_offset-at.ensures

prices-are : (c : goal.After-read_prices-prices) → as_prices c.read_prices-prices.result ≡ (book_of c.args.book.now).header.prices
unfolding book_of
prices-are c = c.read_prices-prices.ensures

-- the log's bytes are bytes
s-bytes : (c : goal.After-slice_known-2-1) → AllBytes c.args.log.now
s-bytes c = λ j. (c.type_inv.log j).fits

low : (c : goal.After-entry_offset-from) → c.entry_offset-from.result ≤ 270644
low c = omega (arith, c.entry_offset-from.ensures.1, c.requires.2, (facts (goal.at.After-entry_offset-from c).Start).count)

pub read_prices-prices-requires : goal.read_prices-prices-requires
read_prices-prices-requires c = header_lies c.requires.0.accepted.held.form

pub entry_offset-from-requires : goal.entry_offset-from-requires
entry_offset-from-requires c = omega (arith, c.requires.2, (facts (goal.at.entry_offset-from-requires c).Start).count)

pub overflow_add-from : goal.overflow_add-from
overflow_add-from c = omega (arith, low c)

pub slice_bounds-tally-end : goal.slice_bounds-tally-end
slice_bounds-tally-end c = omega (arith, low c, (facts (goal.at.slice_bounds-tally-end c).Start).size)

pub tally-tally-requires : goal.tally-tally-requires
tally-tally-requires c = let l = c.args.log.now in record {
  accepted = (
    c.requires.0.accepted,
    begin (goal.at.tally-tally-requires c).After-trades_offset-at,
    trades-are (goal.at.tally-tally-requires c).After-trade_count-m,
    subst InRange (sym (prices-are (goal.at.tally-tally-requires c).After-read_prices-prices))
        (prices_in (book_of c.args.book.now) c.requires.0.accepted.sound),
  );
  in_bounds = (
    simp (length-take, length-drop) (omega (arith, low (goal.at.tally-tally-requires c).After-entry_offset-from, (facts (goal.at.tally-tally-requires c).Start).size)),
    part_within l c.args.book.now
        (s-bytes (goal.at.tally-tally-requires c).After-slice_known-2-1) (few (goal.at.tally-tally-requires c).Start) c.requires.1 c.args.place c.requires.2 c.entry_offset-from.ensures.0
        (trades-are (goal.at.tally-tally-requires c).After-trade_count-m),
  );
}

pub overflow_add-from-2 : goal.overflow_add-from-2
overflow_add-from-2 c = omega (arith, low (goal.at.overflow_add-from-2 c).After-entry_offset-from)

pub slice_bounds-give_back-end : goal.slice_bounds-give_back-end
slice_bounds-give_back-end c = omega (arith, low (goal.at.slice_bounds-give_back-end c).After-entry_offset-from, (facts (goal.at.slice_bounds-give_back-end c).Start).size)

pub give_back-requires : goal.give_back-requires
give_back-requires c = let l = c.args.log.now in record {
  book_in = (c.requires.0, begin (goal.at.give_back-requires c).After-trades_offset-at, trades-are (goal.at.give_back-requires c).After-trade_count-m);
  in_bounds = (
    simp (length-take, length-drop) (omega (arith, low (goal.at.give_back-requires c).After-entry_offset-from, (facts (goal.at.give_back-requires c).Start).size)),
    part_within l c.args.book.now (s-bytes (goal.at.give_back-requires c).After-slice_known-2-1)
        (few (goal.at.give_back-requires c).Start) c.requires.1 c.args.place c.requires.2 c.entry_offset-from.ensures.0 (trades-are (goal.at.give_back-requires c).After-trade_count-m),
  );
}

pub drop_entry-requires : goal.drop_entry-requires
drop_entry-requires c = ((facts (goal.at.drop_entry-requires c).Start).size, omega (arith, c.requires.2, (facts (goal.at.drop_entry-requires c).Start).count))

pub overflow_cast-place : goal.overflow_cast-place
overflow_cast-place c = omega (arith, c.requires.2, (facts (goal.at.overflow_cast-place c).Start).count)

pub seal-requires : goal.seal-requires
seal-requires c = (omega (arith, c.drop_entry.auto.log, (facts (goal.at.seal-requires c).Start).size), omega (arith, c.give_back.auto.book, (facts (goal.at.seal-requires c).Start).room))

pub returns : goal.returns
unfolding answer_of_run
returns c = let l = c.args.log.now in
    withdrawal_gives l c.args.book.now (s-bytes (goal.at.returns c).After-slice_known-2-1) (few (goal.at.returns c).Start) c.requires.1 c.args.place c.requires.2
    c.entry_offset-from.ensures.0 (trades-are (goal.at.returns c).After-trade_count-m) (prices-are (goal.at.returns c).After-read_prices-prices)
    c.tally-tally.ensures c.give_back.ensures c.drop_entry.ensures c.seal.ensures
    refl
