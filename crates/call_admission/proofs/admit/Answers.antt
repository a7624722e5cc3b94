-- `admit` asks the book, then 26, then the store. Assumes nothing.
use Rattle.book_format.proofs.Held.{accepted_of}
use Rattle.refusals.proofs.Numbers.{handed_on}
use Rattle.call_admission.proofs.Asked.{admitted_by, admitted_refused, entered_book, refused_range, when_opened}
use Rattle.call_admission.proofs.admit.Goals as goal

pub returns-in_err-ask-clause-admitted : goal.returns-in_err-ask-clause-admitted
returns-in_err-ask-clause-admitted c = rw (handed_on c.from_residual.ensures.1) (admitted_refused _ _ _ c.in_err-ask.ensures.value)

pub returns-in_err-ask-clause-limits_in_range : goal.returns-in_err-ask-clause-limits_in_range
returns-in_err-ask-clause-limits_in_range c = rw (handed_on c.from_residual.ensures.1) refused_range

pub by_store-requires : goal.by_store-requires
by_store-requires c = entered_book _ _ _ c.in_ok-ask.ensures.value

pub returns-clause-admitted : goal.returns-clause-admitted
returns-clause-admitted c = admitted_by c.in_ok-ask.ensures.value c.by_store.ensures.admitted

pub returns-clause-opened_figures : goal.returns-clause-opened_figures
returns-clause-opened_figures c = let passes = entered_book _ _ _ c.in_ok-ask.ensures.value in
    when_opened _ (record { passes = passes; accepted = accepted_of _ (λ j. (c.type_inv.book j).fits) passes; limits_in = c.by_store.ensures.limits_in_range })
