-- `daybook::run` runs after the opening questions, with the figures of its setting, and a log that is given has its reductions noted. Assumes nothing.
use Rattle.rights.proofs.Logged.{logged_by}
use Rattle.base.specs.Basics.{◌∙◌}
use Rattle.daybook.proofs.Logs.{admitted_log, called_with, called_without, log_fits_lent, opened_by}
use Rattle.daybook.proofs.Opened.{handed_on, opened_pass}
use Rattle.daybook.proofs.changes.run.Goals as goal

pub by_log-opened-requires : goal.by_log-opened-requires
by_log-opened-requires c = opened_pass _ _ _ _ _ c.admit_with_sums-admission.ensures.opened

pub run-requires : goal.run-requires
run-requires c = record {
  opened = handed_on _ _ _ c.by_log-opened.ensures.handed_on c.admit_with_sums-admission.ensures.opened;
  t = log_fits_lent _ _ _ _ c.if-with_log.true c.by_log-opened.ensures.asked;
}

pub returns-then-with_log-clause-logged : goal.returns-then-with_log-clause-logged
returns-then-with_log-clause-logged c = let a = c.args in
    logged_by (called_with a.with_log c.if-with_log.true
    (admitted_log a.with_log _ _ c.admit_with_sums-admission.ensures.admitted c.by_log-opened.ensures.asked c.by_log-opened.ensures.handed_on) c.run.ensures.gives)

pub run-requires-else-with_log : goal.run-requires-else-with_log
run-requires-else-with_log c = handed_on _ _ _ c.by_log-opened.ensures.handed_on c.admit_with_sums-admission.ensures.opened

pub returns-else-with_log-clause-logged : goal.returns-else-with_log-clause-logged
returns-else-with_log-clause-logged c = let a = c.args in
    logged_by (called_without a.with_log c.if-with_log.false
    (admitted_log a.with_log _ _ c.admit_with_sums-admission.ensures.admitted c.by_log-opened.ensures.asked c.by_log-opened.ensures.handed_on) c.run-else-with_log.ensures.called)

pub returns-then-with_log-clause-carried_out : goal.returns-then-with_log-clause-carried_out
returns-then-with_log-clause-carried_out c = let a = c.args in
    c.run.ensures.carried_out ∙ opened_by a.with_log _ _ (admitted_log a.with_log _ _ c.admit_with_sums-admission.ensures.admitted c.by_log-opened.ensures.asked c.by_log-opened.ensures.handed_on)

pub returns-else-with_log-clause-carried_out : goal.returns-else-with_log-clause-carried_out
returns-else-with_log-clause-carried_out c = let a = c.args in
    c.run-else-with_log.ensures.carried_out ∙ opened_by a.with_log _ _ (admitted_log a.with_log _ _ c.admit_with_sums-admission.ensures.admitted c.by_log-opened.ensures.asked c.by_log-opened.ensures.handed_on)
