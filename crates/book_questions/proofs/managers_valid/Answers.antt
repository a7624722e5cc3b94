-- `managers_valid`: the three areas together. Assumes nothing.
use Rattle.book_questions.proofs.Managers.{managers_three}
use Rattle.book_questions.proofs.managers_valid.Goals as goal

pub returns : goal.returns
returns c = managers_three _ c.area_valid-pvb.ensures c.area_valid-tvb.ensures c.area_valid-avb.ensures
