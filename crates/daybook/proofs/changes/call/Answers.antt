-- `daybook::call` makes the call of a time of the day after the opening questions, with the figures of its setting; a log that is given is emptied. Assumes nothing.
use Rattle.base.specs.Basics.{◌∙◌, sym}
use Rattle.requests.proofs.Emptied.{logged_emptied}
use Rattle.rights.proofs.Logged.{logged_by}
use Rattle.daybook.proofs.Logs.{accepted, admitted_log, call_empties, emptiable, outcome_number}
use Rattle.daybook.proofs.Opened.{handed_on, opened_pass}
use Rattle.daybook.proofs.changes.call.Goals as goal

pub by_log-opened-requires : goal.by_log-opened-requires
by_log-opened-requires c = opened_pass _ _ _ _ _ c.admit_with_sums-admission.ensures.opened

pub call-outcome-requires : goal.call-outcome-requires
call-outcome-requires c = handed_on _ _ _ c.by_log-opened.ensures.handed_on c.admit_with_sums-admission.ensures.opened

pub empty-requires : goal.empty-requires
empty-requires c = let asked = c.by_log-opened.ensures.asked in
    let made = c.call-outcome in
    λ e z. emptiable asked (λ k. opened_pass _ _ _ _ _ c.admit_with_sums-admission.ensures.opened (asked.before k))
    (accepted _ made.ensures (sym (outcome_number _ _ _ c.map.ensures.variant c.map.ensures.cases) ∙ z)) made.auto.book e

pub returns : goal.returns
returns c = let a = c.args in
    logged_by (logged_emptied (call_empties a.afternoon a.id) a.with_log
    (admitted_log a.with_log _ _ c.admit_with_sums-admission.ensures.admitted c.by_log-opened.ensures.asked c.by_log-opened.ensures.handed_on) c.call-outcome.ensures
    (rw (outcome_number _ _ _ c.map.ensures.variant c.map.ensures.cases) at c.empty.ensures))
