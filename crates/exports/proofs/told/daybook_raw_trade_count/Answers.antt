-- `daybook_raw_trade_count` stores how many trades the user may see in a part of one place, and leaves another part as it is. Assumes nothing.
use Rattle.rights.specs.Trades.{Told}
use Rattle.exports_answers.specs.Numbers.{count_numbers}
use Rattle.exports.specs.Answers.{is_yes}
use Rattle.exports.proofs.Lent.{refused, replied}
use Rattle.exports.proofs.told.daybook_raw_trade_count.Goals as goal

pub returns-then-answer-ne-COUNT_NUMBERS : goal.returns-then-answer-ne-COUNT_NUMBERS
returns-then-answer-ne-COUNT_NUMBERS c = refused 1 c.args.answer.now _ _ _ c.if-answer-ne-COUNT_NUMBERS.true

pub returns : goal.returns
unfolding is_yes
returns c = replied 1 _ (λ (r : Told). r.number) count_numbers _ _ _ _ c.if-answer-ne-COUNT_NUMBERS.false (rw (c.from.ensures, c.lent_store-store.ensures) at c.trade_count-count.ensures) c.store_count.ensures.number c.store_count.ensures.numbers
