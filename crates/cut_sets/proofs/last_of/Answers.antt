-- `last_of`: by the lowest bit. Assumes nothing.
use Rattle.base.specs.Basics.{eq-eqb, ne_eqb}
use Rattle.cut_sets.specs.Sets.{last_worth}
use Rattle.cut_sets.proofs.last_of.Goals as goal

pub returns-then-set-eq0 : goal.returns-then-set-eq0
unfolding last_worth
returns-then-set-eq0 c = rw (eq-eqb _ _ c.if-set-eq0.true)

pub returns-else-set-eq0 : goal.returns-else-set-eq0
unfolding last_worth
returns-else-set-eq0 c = rw (ne_eqb _ _ c.if-set-eq0.false)
