-- `daybook::posting` posts after the opening questions and passes its amount on: a signed number of 64 bits is the number of its own bits; a log that is given is emptied. Assumes nothing.
use mir.Syntax.{w64}
use mir.ValLaws.{to_z-of_z}
use Rattle.log_format.proofs.Noted.{posting_empties}
use Rattle.rules.specs.Calls.{only}
use Rattle.requests.proofs.Emptied.{logged_emptied}
use Rattle.rights.proofs.Logged.{logged_by}
use Rattle.store.specs.Asked.{figures_in}
use Rattle.daybook.proofs.Logs.{accepted, admitted_log, emptiable}
use Rattle.daybook.proofs.Opened.{figures_pass, handed_on, passes_at}
use Rattle.daybook.proofs.changes.posting.Goals as goal

pub by_log-opened-requires : goal.by_log-opened-requires
by_log-opened-requires c = passes_at _ _ (figures_pass _ _ c.admit-admission.ensures.opened_figures)

pub posting-outcome-requires : goal.posting-outcome-requires
posting-outcome-requires c = handed_on _ _ _ c.by_log-opened.ensures.handed_on (figures_pass _ _ c.admit-admission.ensures.opened_figures)

pub empty-requires : goal.empty-requires
unfolding only
empty-requires c = let asked = c.by_log-opened.ensures.asked in
    let posted = c.posting-outcome in
    λ e z. emptiable asked (λ k. passes_at _ _ (figures_pass _ _ c.admit-admission.ensures.opened_figures) (asked.before k))
    (accepted _ (posted.ensures (figures_in c.by_log-opened.result)) z) posted.auto.book e

pub returns : goal.returns
unfolding only
returns c = let a = c.args in
    logged_by (logged_emptied (posting_empties a.id a.area a.amount) a.with_log (admitted_log a.with_log _ _ c.admit-admission.ensures.admitted c.by_log-opened.ensures.asked c.by_log-opened.ensures.handed_on)
    (rw (to_z-of_z w64 a.amount c.ranges.amount) at (c.posting-outcome.ensures (figures_in c.by_log-opened.result))) c.empty.ensures)
