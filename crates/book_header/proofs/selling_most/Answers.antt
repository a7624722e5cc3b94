-- `selling_most`: 100,000 where the version has selling tariffs. Assumes nothing.
use mathlib.Core.Path.{sym, ◌∙◌}
use Rattle.rules.specs.Questions.{most_selling}
use Rattle.book_header.proofs.selling_most.Goals as goal

pub returns-then-has_selling : goal.returns-then-has_selling
unfolding most_selling
returns-then-has_selling c = rw (sym c.has_selling.ensures ∙ c.if-has_selling.true)

pub returns-else-has_selling : goal.returns-else-has_selling
unfolding most_selling
returns-else-has_selling c = rw (sym c.has_selling.ensures ∙ c.if-has_selling.false)
