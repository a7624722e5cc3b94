-- `daybook_raw_reduction` makes the reduction where the lent part has five places, and stores its numbers there. Assumes nothing.
use Rattle.exports_answers.specs.Numbers.{reduction_numbers}
use Rattle.exports.specs.Answers.{is_yes}
use Rattle.exports.proofs.Lent.{answered, not_called}
use Rattle.exports.proofs.changes.daybook_raw_reduction.Goals as goal

pub returns-then-answer-ne-REDUCTION_NUMBERS : goal.returns-then-answer-ne-REDUCTION_NUMBERS
returns-then-answer-ne-REDUCTION_NUMBERS c = not_called 5 c.args.answer.now reduction_numbers _ _ _ _ c.if-answer-ne-REDUCTION_NUMBERS.true

pub returns : goal.returns
unfolding is_yes
returns c = answered 5 _ reduction_numbers _ _ _ _ _ _ _ _ _ c.if-answer-ne-REDUCTION_NUMBERS.false (rw (c.from-party.ensures, c.lent_store-store.ensures) at c.reduction-reduction.ensures) c.store_reduction.ensures.number
    c.store_reduction.ensures.numbers
