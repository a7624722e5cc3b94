-- `is_known` tests what the definition does. Assumes nothing.
use Rattle.base.specs.Basics.{rules}
use Rattle.rules.specs.Questions.{version_known}
use Rattle.book_format.proofs.is_known.Goals as goal

pub returns : goal.returns
unfolding version_known
returns c = search rules
