-- `reduction` is refused by the entry, or goes on with the user that it found. Assumes nothing.
use Rattle.base.specs.Basics.{◌≡◌, refl, true, T}
use Rattle.std.proofs.lemmas.Result.{IfOk-at_ok}
use Rattle.refusals.proofs.Numbers.{handed_on, refused-nonzero}
use Rattle.refusals.specs.Refusal.{number_in, number_of}
use Rattle.store.specs.Asked.{figures_in}
use Rattle.log_format.specs.Fits.{log_fits}
use Rattle.call_entry.specs.Entered.{Found}
use Rattle.book_format.proofs.Places.{header_lies}
use Rattle.book_format.specs.Book.{book_of}
use Rattle.log_format.specs.Noted.{entry_of}
use Rattle.rules.specs.Book.{find}
use Rattle.units.specs.Limits.{as_limits}
use Rattle.book_questions.specs.Opened.{Opened}
use Rattle.call_reduction.specs.Call.{room_asked}
use Rattle.call_reduction.proofs.Entry.{noted_refused, reduced_with}
use Rattle.call_reduction.proofs.Ways.{call_gives, call_unentered, found_at, gives_refused}
use Rattle.call_reduction.proofs.reduction.Goals as goal
use Rattle.call_reduction.proofs.reduction.Goals.{In_ok-limits}

-- the user that the entry found
found : (c : goal.In_ok-limits) → Found c.args.book.now c.args.id c.in_ok-limits.field-0.place
found c = c.in_ok-limits.ensures.found.1

-- what the opening questions give
told : (c : goal.In_ok-limits) → let a = c.args in Opened (as_limits c.in_ok-limits.field-0.limits) a.book.now a.sellers.now a.buyers.now a.sums.now
told c = let a = c.args in IfOk-at_ok (λ limits. Opened (as_limits limits) a.book.now a.sellers.now a.buyers.now a.sums.now) c.in_ok-limits.ensures.found.0 c.requires.opened

fits : (c : goal.In_ok-limits) → let a = c.args in a.with_log ≡ true → T (log_fits a.log.now a.book.now)
fits c = let a = c.args in IfOk-at_ok (λ limits. a.with_log ≡ true → T (log_fits a.log.now a.book.now)) c.in_ok-limits.ensures.found.0 c.requires.t

pub returns-in_err-limits : goal.returns-in_err-limits
returns-in_err-limits c = let a = c.args in
    let e = c.in_err-limits.field-0.0 in
    rw (handed_on c.from_residual.ensures.1)
    (reduced_with (number_in a.opened) (figures_in a.opened) a.log.now a.book.now a.id a.with_log
    (gives_refused (number_of e) (call_unentered (room_asked a.with_log a.log.now) (number_in a.opened) (figures_in a.opened) a.book.now a.id c.in_err-limits.ensures.asked (refused-nonzero e)) refl)
    (noted_refused a.with_log (entry_of (figures_in a.opened) (book_of a.book.now) (find (book_of a.book.now).users a.id)) a.book.now a.book.now a.log.now (refused-nonzero e) refl))

pub read_prices-requires : goal.read_prices-requires
read_prices-requires c = header_lies (told (goal.at.read_prices-requires c).In_ok-limits).parties.book.accepted.held.form

pub bear-requires : goal.bear-requires
bear-requires c = let o = told (goal.at.bear-requires c).In_ok-limits in
    record { opened_parties = (o.parties, o.summed.sums_are); bearing_sellers_len = (refl, refl) }

pub reduce_user-requires : goal.reduce_user-requires
unfolding book_of
reduce_user-requires c = let t = told (goal.at.reduce_user-requires c).In_ok-limits in
    record {
      book_in = t.parties.book;
      runnable = (
        record {
          risk = record { opened = t.summed.figures; prices_are = c.read_prices.ensures; sums_are = c.bear.ensures.sums_of };
          book
              = c.bear.ensures.borne_in;
        },
        (found (goal.at.reduce_user-requires c).In_ok-limits).known,
      );
      t = fits (goal.at.reduce_user-requires c).In_ok-limits;
    }

pub returns : goal.returns
returns c = let a = c.args in
    let f = found (goal.at.returns c).In_ok-limits in
    let limits = as_limits c.in_ok-limits.field-0.limits in
    let r = c.reduce_user.ensures in
    rw c.in_ok-limits.ensures.found.0
    (reduced_with 0 limits a.log.now a.book.now a.id a.with_log (call_gives (room_asked a.with_log a.log.now) 0 limits a.book.now a.id refl f r.gives)
    (rw (found_at f) at r.log_after))
