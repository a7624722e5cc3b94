-- `level` stores the level of a time of the day in a part of one place, and leaves another part as it is. Assumes nothing.
use Rattle.rules.specs.Queries.{Reply}
use Rattle.exports_answers.specs.Numbers.{level_numbers}
use Rattle.exports.specs.Answers.{is_yes}
use Rattle.exports.proofs.Lent.{refused, replied}
use Rattle.exports.proofs.level.Goals as goal

pub returns-then-answer-ne-LEVEL_NUMBERS : goal.returns-then-answer-ne-LEVEL_NUMBERS
returns-then-answer-ne-LEVEL_NUMBERS c = refused 1 c.args.answer.now _ _ _ c.if-answer-ne-LEVEL_NUMBERS.true

pub returns : goal.returns
unfolding is_yes
returns c = replied 1 _ (λ (r : Reply). r.number) level_numbers _ _ _ _ c.if-answer-ne-LEVEL_NUMBERS.false (rw (c.from.ensures, c.lent_store-store.ensures) at c.level-level.ensures) c.store_level.ensures.number c.store_level.ensures.numbers
