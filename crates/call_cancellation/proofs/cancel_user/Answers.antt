-- `cancel_user` is refused by a question on the user's level, or goes on to the questions 14 and 24 with the user's target. Assumes nothing.
use Rattle.base.specs.Basics.{◌∙◌, refl, sym, get_or}
use Rattle.refusals.proofs.Numbers.{handed_on, refused-nonzero}
use Rattle.book_format.specs.Book.{book_of, users_of}
use Rattle.units.specs.Limits.{as_limits}
use Rattle.rules.specs.Book.{nobody}
use Rattle.run_reduction.proofs.Steps.{accepted_day}
use Rattle.call_cancellation.proofs.Ways.{user_asked, user_refused}
use Rattle.call_cancellation.proofs.cancel_user.Goals as goal

pub shortfall_at-requires : goal.shortfall_at-requires
shortfall_at-requires c = (c.requires.runnable.0, c.requires.runnable.1, refl)

pub returns-in_err-target : goal.returns-in_err-target
returns-in_err-target c = let a = c.args in
    rw (handed_on c.from_residual.ensures.1)
    (sym (user_refused (as_limits a.day.limits) (book_of a.book.now) (get_or (users_of a.book.now) a.place nobody) a.tries c.in_err-target.ensures.shortfall_of (refused-nonzero c.in_err-target.field-0.0)))

pub cancel_sales-requires : goal.cancel_sales-requires
cancel_sales-requires c = let r = c.requires.runnable.0 in record {
  selling = record { borne = r.book; begin = refl; trades_are = refl; inside = c.requires.runnable.1 };
  in_range
      = ((accepted_day r.risk.opened r.risk.prices_are).prices_in, r.risk.prices_are);
  tries_nonzero = c.requires.tries_nonzero;
}

pub returns : goal.returns
returns c = let a = c.args in
    c.cancel_sales.ensures
    ∙ sym (user_asked (as_limits a.day.limits) (book_of a.book.now) (get_or (users_of a.book.now) a.place nobody) a.tries c.in_ok-target.ensures.shortfall_of refl)
