-- `admit_list` asks the book, then 26, then whether the list fits, then the store: each refusal is the first. Assumes nothing.
use Rattle.refusals.proofs.Numbers.{handed_on}
use Rattle.call_admission.proofs.Asked.{entered_book, list_by_store, list_refused, list_unfit}
use Rattle.call_admission.proofs.admit_list.Goals as goal

pub returns-in_err-ask : goal.returns-in_err-ask
returns-in_err-ask c = rw (handed_on c.from_residual.ensures.1) (list_refused _ _ _ _ c.in_err-ask.ensures.value)

pub returns-then-not-fits : goal.returns-then-not-fits
returns-then-not-fits c = list_unfit _ _ _ c.in_ok-ask.ensures.value c.if-not-fits.true

pub by_store-requires : goal.by_store-requires
by_store-requires c = entered_book _ _ _ c.in_ok-ask.ensures.value

pub returns : goal.returns
returns c = list_by_store _ _ _ c.in_ok-ask.ensures.value c.if-not-fits.false c.by_store.ensures.admitted
