-- `levels` is refused by the opening questions, or gives the rows of all users. Assumes nothing.
use Rattle.base.specs.Basics.{refl, arith, subst}
use Rattle.std.proofs.Common.{IfOk}
use Rattle.refusals.proofs.Numbers.{handed_on, refused-nonzero}
use Rattle.book_questions.specs.Opened.{Opened}
use Rattle.units.specs.Limits.{as_limits}
use Rattle.call_users.proofs.User.{levels_found, levels_refused}
use Rattle.call_users.proofs.levels.Goals as goal
use Rattle.call_users.proofs.levels.Goals.{In_ok-limits}

pub returns-in_err-limits : goal.returns-in_err-limits
returns-in_err-limits c = rw (c.in_err-limits.was, handed_on c.from_residual.ensures.1) (levels_refused _ c.args.book.now _ (refused-nonzero c.in_err-limits.field-0.0))

-- what the opening questions give
told : (c : goal.In_ok-limits) → let a = c.args in Opened (as_limits c.in_ok-limits.limits) a.book.now a.sellers.now a.buyers.now a.sums.now
told c = let a = c.args in subst (λ o. IfOk o (λ limits. Opened (as_limits limits) a.book.now a.sellers.now a.buyers.now a.sums.now)) c.in_ok-limits.was c.requires

pub user_count-n-requires : goal.user_count-n-requires
user_count-n-requires c = omega (arith, (told c).parties.book.accepted.held.form.head)

pub fill_below_notified-requires : goal.fill_below_notified-requires
fill_below_notified-requires c = ((told (goal.at.fill_below_notified-requires c).In_ok-limits).parties.book, refl)

pub rows_of-requires : goal.rows_of-requires
rows_of-requires c = ((told (goal.at.rows_of-requires c).In_ok-limits).summed, c.user_count-n.ensures, c.fill_below_notified.ensures)

pub returns : goal.returns
returns c = rw c.in_ok-limits.was (levels_found _ c.args.book.now c.rows_of.ensures)
