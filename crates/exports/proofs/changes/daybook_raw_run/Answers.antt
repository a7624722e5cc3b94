-- `daybook_raw_run` makes the run where the lent part has three places, and stores its numbers there. Assumes nothing.
use Rattle.exports_answers.specs.Numbers.{run_numbers}
use Rattle.exports.specs.Answers.{is_yes}
use Rattle.exports.proofs.Lent.{answered, not_called}
use Rattle.exports.proofs.changes.daybook_raw_run.Goals as goal

pub returns-then-answer-ne-RUN_NUMBERS : goal.returns-then-answer-ne-RUN_NUMBERS
returns-then-answer-ne-RUN_NUMBERS c = not_called 3 c.args.answer.now run_numbers _ _ _ _ c.if-answer-ne-RUN_NUMBERS.true

pub returns : goal.returns
unfolding is_yes
returns c = answered 3 _ run_numbers _ _ _ _ _ _ _ _ _ c.if-answer-ne-RUN_NUMBERS.false (rw (c.from.ensures, c.lent_store-store.ensures) at c.run-run.ensures.logged) c.store_run.ensures.number c.store_run.ensures.numbers
