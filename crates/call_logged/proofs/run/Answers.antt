-- `run` is refused by an opening question, or runs the book in its bytes, and the log holds the book that it leaves. Assumes nothing.
use Rattle.base.specs.Basics.{◌≡◌, refl, ◌∙◌, ◌≤◌, arith, T}
use Rattle.std.proofs.lemmas.Result.{IfOk-at_ok}
use Rattle.refusals.proofs.Numbers.{handed_on, refused-nonzero}
use Rattle.refusals.specs.Refusal.{number_of}
use Rattle.rules.specs.Levels.{today}
use Rattle.book_format.proofs.Places.{header_lies}
use Rattle.book_format.specs.Book.{book_of, count_of_trades}
use Rattle.book_questions.specs.Opened.{Opened}
use Rattle.call_run.specs.Call.{run_call}
use Rattle.log_format.proofs.Read.{FitLog, fits_facts}
use Rattle.log_format.specs.Fits.{log_fits}
use Rattle.log_format.specs.Log.{count_of_entries}
use Rattle.units.specs.Limits.{as_limits}
use Rattle.call_logged.proofs.Ways.{logged_refused, run_answer, run_logged}
use Rattle.call_logged.proofs.run.Goals as goal
use Rattle.call_logged.proofs.run.Goals.{After-get_u32-count, In_ok-limits}

-- what the opening questions give: the book, and that the log fits it
told : (c : goal.In_ok-limits) → let a = c.args in Opened (as_limits c.in_ok-limits.limits) a.book.now a.sellers.now a.buyers.now a.sums.now
told c = let a = c.args in IfOk-at_ok (λ limits. Opened (as_limits limits) a.book.now a.sellers.now a.buyers.now a.sums.now) c.in_ok-limits.was c.requires.opened

fits : (c : goal.In_ok-limits) → T (log_fits c.args.log.now c.args.book.now)
fits c = IfOk-at_ok (λ limits. T (log_fits c.args.log.now c.args.book.now)) c.in_ok-limits.was c.requires.t

facts : (c : goal.In_ok-limits) → FitLog c.args.log.now c.args.book.now
facts c = fits_facts c.args.log.now c.args.book.now (fits c)

few : (c : goal.In_ok-limits) → count_of_trades c.args.book.now ≤ 256
few c = (told c).parties.book.accepted.held.form.trades

-- the count that was read
count : (c : goal.After-get_u32-count) → c.get_u32-count.result ≡ count_of_entries c.args.log.now
unfolding count_of_entries
count c = c.get_u32-count.ensures

pub returns-in_err-limits-clause-gives : goal.returns-in_err-limits-clause-gives
returns-in_err-limits-clause-gives c = let a = c.args in let e = c.in_err-limits.field-0.0 in
    rw (c.in_err-limits.was, handed_on c.from_residual.ensures.1) (logged_refused today a.book.now a.log.now run_call (number_of e) (refused-nonzero e) refl)

pub read_prices-requires : goal.read_prices-requires
read_prices-requires c = header_lies (told c).parties.book.accepted.held.form

pub get_u32-count-requires : goal.get_u32-count-requires
get_u32-count-requires c = omega (arith, (facts (goal.at.get_u32-count-requires c).In_ok-limits).size)

pub bear-requires : goal.bear-requires
bear-requires c = let o = told (goal.at.bear-requires c).In_ok-limits in
    record { opened_parties = (o.parties, o.summed.sums_are); bearing_sellers_len = (refl, refl) }

pub run_book-noted-requires : goal.run_book-noted-requires
unfolding book_of
run_book-noted-requires c = let t = told (goal.at.run_book-noted-requires c).In_ok-limits in
    record {
      book_in = t.parties.book;
      runnable = record {
        risk = record { opened = t.summed.figures; prices_are = c.read_prices.ensures; sums_are = c.bear.ensures.sums_of };
        book
            = c.bear.ensures.borne_in;
      };
      count_bound = (omega (arith, count (goal.at.run_book-noted-requires c).After-get_u32-count, (facts (goal.at.run_book-noted-requires c).In_ok-limits).count), (facts (goal.at.run_book-noted-requires c).In_ok-limits).size);
    }

pub overflow_cast-many : goal.overflow_cast-many
overflow_cast-many c = omega (arith, c.run_book-noted.ensures.few)

pub seal-requires : goal.seal-requires
seal-requires c = (c.run_book-noted.ensures.size ∙ (facts (goal.at.seal-requires c).In_ok-limits).size, omega (arith, c.run_book-noted.auto.book, (facts (goal.at.seal-requires c).In_ok-limits).room))

pub returns-clause-gives : goal.returns-clause-gives
returns-clause-gives c = let a = c.args in
    rw c.in_ok-limits.was
    (run_logged (as_limits c.in_ok-limits.limits) a.book.now a.log.now (λ j. (c.slice_known-2-1.given j).fits) (few (goal.at.returns-clause-gives c).In_ok-limits) (fits (goal.at.returns-clause-gives c).In_ok-limits) refl
    (count (goal.at.returns-clause-gives c).After-get_u32-count) c.run_book-noted.ensures c.seal.ensures (run_answer c.run_book-noted.result.totals c.run_book-noted.result.due))
