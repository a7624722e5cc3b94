-- `selling_valid` tests both tariffs by the version's highest. Assumes nothing.
use Rattle.rules.specs.Questions.{selling_is_valid}
use Rattle.book_header.proofs.selling_valid.Goals as goal

pub returns : goal.returns
unfolding selling_is_valid
returns c = rw c.selling_most-most.ensures
