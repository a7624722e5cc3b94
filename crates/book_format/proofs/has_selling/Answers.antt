-- `has_selling` tests what the definition does. Assumes nothing.
use Rattle.base.specs.Basics.{rules}
use Rattle.rules.specs.Areas.{selling_in}
use Rattle.book_format.proofs.has_selling.Goals as goal

pub returns : goal.returns
unfolding selling_in
returns c = search rules
