-- `daybook::withdrawal` withdraws after the opening questions, 19 among them. Assumes nothing.
use Rattle.base.specs.Basics.{refl, true}
use Rattle.requests.proofs.Logged.{logged_withdrawal}
use Rattle.rights.proofs.Logged.{logged_by}
use Rattle.store.specs.Store.{given}
use Rattle.daybook.proofs.Logs.{admitted_log, log_fits_lent}
use Rattle.daybook.proofs.Opened.{handed_on, opened_pass, parties_opened}
use Rattle.daybook.proofs.changes.withdrawal.Goals as goal

pub by_log-opened-requires : goal.by_log-opened-requires
by_log-opened-requires c = opened_pass _ _ _ _ _ c.admit_with_sums-admission.ensures.opened

pub withdrawal-requires : goal.withdrawal-requires
withdrawal-requires c = record {
  opened_parties = parties_opened _ _ _ _ _ (handed_on _ _ _ c.by_log-opened.ensures.handed_on c.admit_with_sums-admission.ensures.opened);
  t = log_fits_lent _ _ _ _ refl c.by_log-opened.ensures.asked;
}

pub returns : goal.returns
unfolding given
returns c = logged_by (logged_withdrawal (admitted_log true _ _ c.admit_with_sums-admission.ensures.admitted c.by_log-opened.ensures.asked c.by_log-opened.ensures.handed_on).asked c.withdrawal.ensures)
