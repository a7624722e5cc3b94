-- `by_log` asks 19 where no question before it refuses. Assumes nothing.
use Rattle.base.specs.Basics.{refl}
use Rattle.book_format.proofs.Passed.{passed}
use Rattle.refusals.proofs.Numbers.{handed_on, refused-nonzero}
use Rattle.call_admission.proofs.Log.{log_asked, log_unasked}
use Rattle.call_admission.proofs.by_log.Goals as goal

pub returns-in_err-limits-clause-asked : goal.returns-in_err-limits-clause-asked
returns-in_err-limits-clause-asked c = rw (handed_on c.from_residual.ensures.1, c.in_err-limits.was) (log_unasked _ _ _ (refused-nonzero _))

pub check-requires : goal.check-requires
check-requires c = (passed c.args.book.now (c.requires (rw c.in_ok-limits.was refl))).form

pub returns-in_err-check-clause-asked : goal.returns-in_err-check-clause-asked
returns-in_err-check-clause-asked c = rw (handed_on c.from_residual-in_err-check.ensures.1, c.in_ok-limits.was) (log_asked _ _ _ refl c.in_err-check.ensures)

pub returns-clause-asked : goal.returns-clause-asked
returns-clause-asked c = rw c.in_ok-limits.was (log_asked _ _ _ refl c.in_ok-check.ensures)
