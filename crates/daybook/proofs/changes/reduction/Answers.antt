-- `daybook::reduction` reduces after the opening questions, with the figures of its setting, and a log that is given has it noted. Assumes nothing.
use Rattle.rights.proofs.Logged.{logged_by}
use Rattle.daybook.proofs.Logs.{admitted_log, log_fits_in, reduction_logged}
use Rattle.daybook.proofs.Opened.{handed_on, opened_pass}
use Rattle.daybook.proofs.changes.reduction.Goals as goal

pub by_log-opened-requires : goal.by_log-opened-requires
by_log-opened-requires c = opened_pass _ _ _ _ _ c.admit_with_sums-admission.ensures.opened

pub reduction-requires : goal.reduction-requires
reduction-requires c = record { opened = handed_on _ _ _ c.by_log-opened.ensures.handed_on c.admit_with_sums-admission.ensures.opened; t = log_fits_in _ c.by_log-opened.ensures.asked }

pub returns : goal.returns
returns c = let a = c.args in
    logged_by (reduction_logged a.with_log (admitted_log a.with_log _ _ c.admit_with_sums-admission.ensures.admitted c.by_log-opened.ensures.asked c.by_log-opened.ensures.handed_on)
    c.reduction.ensures)
