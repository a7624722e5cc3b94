-- `daybook_raw_warning` stores whether the user is warned in a part of one place, and leaves another part as it is. Assumes nothing.
use Rattle.rules.specs.Queries.{Reply}
use Rattle.exports_answers.specs.Numbers.{warning_numbers}
use Rattle.exports.specs.Answers.{is_yes}
use Rattle.exports.proofs.Lent.{refused, replied}
use Rattle.exports.proofs.daybook_raw_warning.Goals as goal

pub returns-then-answer-ne-WARNING_NUMBERS : goal.returns-then-answer-ne-WARNING_NUMBERS
returns-then-answer-ne-WARNING_NUMBERS c = refused 1 c.args.answer.now _ _ _ c.if-answer-ne-WARNING_NUMBERS.true

pub returns : goal.returns
unfolding is_yes
returns c = replied 1 _ (λ (r : Reply). r.number) warning_numbers _ _ _ _ c.if-answer-ne-WARNING_NUMBERS.false (rw (c.from.ensures, c.lent_store-store.ensures) at c.warning-warned.ensures) c.store_warning.ensures.number c.store_warning.ensures.numbers
