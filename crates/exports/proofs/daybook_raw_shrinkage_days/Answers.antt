-- `daybook_raw_shrinkage_days` stores the days of a share in a part of 30 places, and leaves another part as it is. Assumes nothing.
use Rattle.base.specs.Basics.{refl, ◌∙◌}
use Rattle.exports.proofs.Lent.{refused, stored}
use Rattle.exports.proofs.daybook_raw_shrinkage_days.Goals as goal

pub returns-then-answer-ne-SHRINKAGE_DAYS : goal.returns-then-answer-ne-SHRINKAGE_DAYS
returns-then-answer-ne-SHRINKAGE_DAYS c = refused 30 c.args.answer.now _ _ _ c.if-answer-ne-SHRINKAGE_DAYS.true

pub returns : goal.returns
returns c = stored 30 _ _ _ _ _ _ c.if-answer-ne-SHRINKAGE_DAYS.false refl (c.store_days.ensures ∙ c.over_days-days.ensures)
