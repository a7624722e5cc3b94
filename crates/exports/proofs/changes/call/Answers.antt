-- `call` makes the call of a time of the day where the lent part has two places, and stores its level and what was added there. Assumes nothing.
use Rattle.exports_answers.specs.Numbers.{call_numbers}
use Rattle.exports.specs.Answers.{is_yes}
use Rattle.exports.proofs.Lent.{answered, not_called}
use Rattle.exports.proofs.changes.call.Goals as goal

pub returns-then-answer-ne-CALL_NUMBERS : goal.returns-then-answer-ne-CALL_NUMBERS
returns-then-answer-ne-CALL_NUMBERS c = not_called 2 c.args.answer.now call_numbers _ _ _ _ c.if-answer-ne-CALL_NUMBERS.true

pub returns : goal.returns
unfolding is_yes
returns c = answered 2 _ call_numbers _ _ _ _ _ _ _ _ _ c.if-answer-ne-CALL_NUMBERS.false (rw (c.from-party.ensures, c.lent_store-store.ensures) at c.call-call.ensures) c.store_call.ensures.number c.store_call.ensures.numbers
