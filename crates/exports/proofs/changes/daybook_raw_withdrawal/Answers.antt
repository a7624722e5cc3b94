-- `daybook_raw_withdrawal` withdraws where the lent part has two places, and stores the numbers there. Assumes nothing.
use Rattle.exports_answers.specs.Numbers.{withdrawal_numbers}
use Rattle.exports.specs.Answers.{is_yes}
use Rattle.exports.proofs.Lent.{answered, not_called}
use Rattle.exports.proofs.changes.daybook_raw_withdrawal.Goals as goal

pub returns-then-answer-ne-WITHDRAWAL_NUMBERS : goal.returns-then-answer-ne-WITHDRAWAL_NUMBERS
returns-then-answer-ne-WITHDRAWAL_NUMBERS c = not_called 2 c.args.answer.now withdrawal_numbers _ _ _ _ c.if-answer-ne-WITHDRAWAL_NUMBERS.true

pub returns : goal.returns
unfolding is_yes
returns c = answered 2 _ withdrawal_numbers _ _ _ _ _ _ _ _ _ c.if-answer-ne-WITHDRAWAL_NUMBERS.false (rw (c.from.ensures, c.lent_store-store.ensures) at c.withdrawal-withdrawal.ensures) c.store_withdrawal.ensures.number
    c.store_withdrawal.ensures.numbers
