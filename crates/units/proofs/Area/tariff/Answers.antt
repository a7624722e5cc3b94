-- PVB is told from the other areas.
use Rattle.std.proofs.Common.{eq-eqb, ne_eqb}
use Rattle.rules.specs.Areas.{tariff}
use Rattle.units.proofs.Area.tariff.Goals as goal

pub returns-then-self-eq-PVB-clause-result_value : goal.returns-then-self-eq-PVB-clause-result_value
unfolding tariff
returns-then-self-eq-PVB-clause-result_value c = rw (eq-eqb _ _ c.if-self-eq-PVB.true)

pub returns-else-self-eq-PVB-clause-result_value : goal.returns-else-self-eq-PVB-clause-result_value
unfolding tariff
returns-else-self-eq-PVB-clause-result_value c = rw (ne_eqb _ _ c.if-self-eq-PVB.false)
