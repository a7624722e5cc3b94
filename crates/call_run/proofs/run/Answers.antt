-- `run` is refused by an opening question, or runs the book in its bytes. Assumes nothing.
use mathlib.Core.Path.{refl}
use Rattle.std.proofs.lemmas.Result.{IfOk-at_ok}
use Rattle.refusals.proofs.Numbers.{handed_on, refused-nonzero}
use Rattle.refusals.specs.Refusal.{number_of}
use Rattle.rules.specs.Calls.{answer_of_run}
use Rattle.rules.specs.Levels.{today}
use Rattle.book_format.proofs.Places.{header_lies}
use Rattle.units.specs.Limits.{as_limits}
use Rattle.book_format.specs.Book.{book_of}
use Rattle.book_questions.specs.Opened.{Opened}
use Rattle.call_run.proofs.Ways.{run_called, run_refused}
use Rattle.call_run.proofs.run.Goals as goal
use Rattle.call_run.proofs.run.Goals.{In_ok-limits}

-- what the opening questions give
told : (c : goal.In_ok-limits) → let a = c.args in Opened (as_limits c.in_ok-limits.limits) a.book.now a.sellers.now a.buyers.now a.sums.now
told c = let a = c.args in IfOk-at_ok (λ limits. Opened (as_limits limits) a.book.now a.sellers.now a.buyers.now a.sums.now) c.in_ok-limits.was c.requires

pub returns-in_err-limits-clause-called : goal.returns-in_err-limits-clause-called
returns-in_err-limits-clause-called c = let e = c.in_err-limits.field-0.0 in
    rw (c.in_err-limits.was, handed_on c.from_residual.ensures.1) (run_refused today c.args.book.now (number_of e) (refused-nonzero e) refl)

pub read_prices-requires : goal.read_prices-requires
read_prices-requires c = header_lies (told c).parties.book.accepted.held.form

pub bear-requires : goal.bear-requires
bear-requires c = let o = told (goal.at.bear-requires c).In_ok-limits in
    record { opened_parties = (o.parties, o.summed.sums_are); bearing_sellers_len = (refl, refl) }

pub run_book-totals-requires : goal.run_book-totals-requires
unfolding book_of
run_book-totals-requires c = let e = told (goal.at.run_book-totals-requires c).In_ok-limits in
    record { book_in = e.parties.book; runnable = record { risk = record { opened = e.summed.figures; prices_are = c.read_prices.ensures; sums_are = c.bear.ensures.sums_of }; book = c.bear.ensures.borne_in } }

pub returns-clause-called : goal.returns-clause-called
unfolding answer_of_run
returns-clause-called c = rw c.in_ok-limits.was (run_called (as_limits c.in_ok-limits.limits) c.args.book.now refl c.run_book-totals.ensures refl)
