-- `daybook_raw_levels` stores the levels of all users in a part of 256 places, and leaves another part as it is. Assumes nothing.
use Rattle.user_levels.specs.Levels.{AllLevels}
use Rattle.exports_users.specs.Numbers.{users_numbers}
use Rattle.exports.specs.Answers.{is_yes}
use Rattle.exports.proofs.Lent.{refused, replied}
use Rattle.exports.proofs.daybook_raw_levels.Goals as goal

pub returns-then-answer-ne-ALL_LEVELS_NUMBERS : goal.returns-then-answer-ne-ALL_LEVELS_NUMBERS
returns-then-answer-ne-ALL_LEVELS_NUMBERS c = refused 256 c.args.answer.now _ _ _ c.if-answer-ne-ALL_LEVELS_NUMBERS.true

pub returns : goal.returns
unfolding is_yes
returns c = replied 256 _ (λ (r : AllLevels). r.number) users_numbers _ _ _ _ c.if-answer-ne-ALL_LEVELS_NUMBERS.false (rw (c.from.ensures, c.lent_store-store.ensures) at c.levels-levels.ensures) c.store_levels.ensures.number c.store_levels.ensures.numbers
