-- `daybook_raw_shrinkage_return` stores a return in a part of 131 places, and leaves another part as it is. Assumes nothing.
use Rattle.base.specs.Basics.{ap, ◌∙◌}
use Rattle.shrinkage.specs.Return.{Returned}
use Rattle.exports_shrinkage.specs.Numbers.{return_numbers}
use Rattle.exports.proofs.Lent.{refused, stored}
use Rattle.exports.proofs.daybook_raw_shrinkage_return.Goals as goal

pub returns-then-answer-ne-RETURN_NUMBERS : goal.returns-then-answer-ne-RETURN_NUMBERS
returns-then-answer-ne-RETURN_NUMBERS c = refused 131 c.args.answer.now _ _ _ c.if-answer-ne-RETURN_NUMBERS.true

pub returns : goal.returns
returns c = let as-defined = c.shrinkage_return-returned.ensures in
    stored 131 _ _ _ _ _ _ c.if-answer-ne-RETURN_NUMBERS.false
    (c.store_return.ensures.number ∙ ap (λ (r : Returned). r.number) as-defined)
    (c.store_return.ensures.numbers ∙ ap return_numbers as-defined)
