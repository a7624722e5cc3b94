-- `daybook_raw_cancellation` stores the marks and the numbers where both lent parts are of their length, and leaves them as they are where one is not. Assumes nothing.
use Rattle.base.specs.Basics.{ap, ◌∙◌}
use Rattle.requests.specs.Cancellation.{Cancellation}
use Rattle.exports_cancellation.specs.Numbers.{cancellation_numbers, mark_numbers}
use Rattle.exports.specs.Answers.{is_yes}
use Rattle.exports.proofs.Lent.{first_refused, second_refused, stored_both}
use Rattle.exports.proofs.daybook_raw_cancellation.Goals as goal

pub returns-then-marks-ne-MARKS : goal.returns-then-marks-ne-MARKS
returns-then-marks-ne-MARKS c = let a = c.args in
    first_refused 256 3 a.marks.now a.answer.now _ _ _ c.if-marks-ne-MARKS.true

pub returns-then-answer-ne-CANCELLATION_NUMBERS : goal.returns-then-answer-ne-CANCELLATION_NUMBERS
returns-then-answer-ne-CANCELLATION_NUMBERS c = let a = c.args in
    second_refused 256 3 a.marks.now a.answer.now _ _ _ c.if-marks-ne-MARKS.false c.if-answer-ne-CANCELLATION_NUMBERS.true

pub returns : goal.returns
unfolding is_yes
returns c = let is = (rw (c.from.ensures, c.lent_store-store.ensures) at c.cancellation-cancellation.ensures) in
    stored_both 256 3 _ _ _ _ _ _ _ _ c.if-marks-ne-MARKS.false c.if-answer-ne-CANCELLATION_NUMBERS.false (c.store_cancellation.ensures.number ∙ ap (λ (r : Cancellation). r.number) is)
    (c.store_cancellation.ensures.marks ∙ ap mark_numbers is) (c.store_cancellation.ensures.numbers ∙ ap cancellation_numbers is)
