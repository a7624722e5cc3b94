-- `daybook_raw_flag` stores whether the user is flagged in a part of one place, and leaves another part as it is. Assumes nothing.
use Rattle.rights.specs.Trades.{Told}
use Rattle.exports_answers.specs.Numbers.{flag_numbers}
use Rattle.exports.specs.Answers.{is_yes}
use Rattle.exports.proofs.Lent.{refused, replied}
use Rattle.exports.proofs.told.daybook_raw_flag.Goals as goal

pub returns-then-answer-ne-FLAG_NUMBERS : goal.returns-then-answer-ne-FLAG_NUMBERS
returns-then-answer-ne-FLAG_NUMBERS c = refused 1 c.args.answer.now _ _ _ c.if-answer-ne-FLAG_NUMBERS.true

pub returns : goal.returns
unfolding is_yes
returns c = replied 1 _ (λ (r : Told). r.number) flag_numbers _ _ _ _ c.if-answer-ne-FLAG_NUMBERS.false (rw (c.from.ensures, c.lent_store-store.ensures) at c.flag-flagged.ensures) c.store_flag.ensures.number c.store_flag.ensures.numbers
