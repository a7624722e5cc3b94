-- `reduce_user` is refused by a question on the user's level, or goes on to question 14 with the user's target. Assumes nothing.
use Rattle.base.specs.Basics.{refl, get_or}
use Rattle.refusals.proofs.Numbers.{handed_on, refused-nonzero}
use Rattle.refusals.specs.Refusal.{number_of}
use Rattle.book_format.specs.Book.{book_of, users_of}
use Rattle.log_format.specs.Noted.{entry_of}
use Rattle.units.specs.Limits.{as_limits}
use Rattle.rules.specs.Book.{nobody}
use Rattle.call_reduction.specs.Call.{room_asked}
use Rattle.call_reduction.proofs.Entry.{noted_refused}
use Rattle.call_reduction.proofs.Ways.{gives_refused, user_asked, user_refused}
use Rattle.call_reduction.proofs.reduce_user.Goals as goal

pub shortfall_at-requires : goal.shortfall_at-requires
shortfall_at-requires c = (c.requires.runnable.0, c.requires.runnable.1, refl)

pub returns-in_err-target : goal.returns-in_err-target
returns-in_err-target c = let a = c.args in
    let u = get_or (users_of a.book.now) a.place nobody in
    let e = c.in_err-target.field-0.0 in
    rw (handed_on c.from_residual.ensures.1)
    (record {
      gives = gives_refused (number_of e) (user_refused (room_asked a.with_log a.log.now) (as_limits a.day.limits) a.book.now u c.in_err-target.ensures.shortfall_of (refused-nonzero e)) refl;
      log_after = noted_refused a.with_log (entry_of (as_limits a.day.limits) (book_of a.book.now) u) a.book.now a.book.now a.log.now (refused-nonzero e) refl;
    })

pub reduce_sales-requires : goal.reduce_sales-requires
reduce_sales-requires c = let filled = c.in_ok-target.ensures.positions_of in
    let r = c.requires.runnable.0 in
    record { user_of = (record { limits = as_limits c.args.day.limits; sums = c.args.sums.now; risk = r.risk; book = c.requires.book_in; inside = c.requires.runnable.1; positions = filled.0; room = filled.1 }, r.book); t = c.requires.t }

pub returns : goal.returns
unfolding entry_of
returns c = let r = c.reduce_sales in
    let a = c.args in
    let u = get_or (users_of a.book.now) a.place nobody in
    let q = c.in_ok-target.ensures.shortfall_of in record { gives = rw (user_asked (room_asked a.with_log a.log.now) (as_limits a.day.limits) a.book.now u q refl) r.ensures.gives; log_after = rw (q.target_is refl) at r.ensures.log_after }
