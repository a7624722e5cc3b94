-- `check` asks question 19 only of a log that is given. Assumes nothing.
use Rattle.base.specs.Basics.{sym, ◌∙◌}
use Rattle.log_lent.proofs.Ways.{log_fits_lem, log_unfit, not_lent}
use Rattle.log_lent.proofs.check.Goals as goal
use Rattle.log_lent.proofs.check.Goals.{else-with_log-via-then-with_log+else-not-fits, else-with_log-via-else-with_log}

pub returns-then-not-fits : goal.returns-then-not-fits
returns-then-not-fits c = let a = c.args in log_unfit a.log.now a.book.now c.if-with_log.true (sym c.fits.ensures ∙ c.if-not-fits.true)

pub returns : goal.returns
returns c = let a = c.args in
    elim c.else-with_log.branch [
      | else-with_log-via-then-with_log+else-not-fits w ↦ log_fits_lem a.log.now a.book.now w.if-with_log.true (sym w.fits.ensures ∙ w.if-not-fits.false)
      | else-with_log-via-else-with_log w ↦ not_lent a.log.now a.book.now w.if-with_log.false
    ]
