-- `admit_with_sums` asks the book, then 26, then the store: where nothing refuses the book refused nothing, so that places and sums are told. Assumes nothing.
use Rattle.base.specs.Basics.{◌∙◌}
use Rattle.book_questions.proofs.Asked.{book_opened}
use Rattle.refusals.proofs.Numbers.{handed_on}
use Rattle.call_admission.proofs.Asked.{admitted_by, admitted_refused, entered_book, refused_range, when_summed}
use Rattle.call_admission.proofs.admit_with_sums.Goals as goal

pub returns-in_err-ask-clause-admitted : goal.returns-in_err-ask-clause-admitted
returns-in_err-ask-clause-admitted c = rw (handed_on c.from_residual.ensures.1) (admitted_refused _ _ _ c.in_err-ask.ensures.value)

pub returns-in_err-ask-clause-limits_in_range : goal.returns-in_err-ask-clause-limits_in_range
returns-in_err-ask-clause-limits_in_range c = rw (handed_on c.from_residual.ensures.1) refused_range

pub by_store-requires : goal.by_store-requires
by_store-requires c = entered_book _ _ _ c.in_ok-ask.ensures.value

pub returns-clause-admitted : goal.returns-clause-admitted
returns-clause-admitted c = admitted_by c.in_ok-ask.ensures.value c.by_store.ensures.admitted

pub returns-clause-opened : goal.returns-clause-opened
returns-clause-opened c = let told = c.ask-told in
    when_summed _ (book_opened told.ensures.asked_of (λ j. (c.type_inv.book j).fits) (entered_book _ _ _ c.in_ok-ask.ensures.value)
    (told.auto.sellers ∙ c.requires.0) (told.auto.buyers ∙ c.requires.1) told.ensures.summed c.by_store.ensures.limits_in_range)
