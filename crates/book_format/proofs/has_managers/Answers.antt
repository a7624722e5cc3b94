-- `has_managers` tests what the definition does. Assumes nothing.
use Rattle.base.specs.Basics.{rules}
use Rattle.rules.specs.Areas.{managers_in}
use Rattle.book_format.proofs.has_managers.Goals as goal

pub returns : goal.returns
unfolding managers_in
returns c = search rules
