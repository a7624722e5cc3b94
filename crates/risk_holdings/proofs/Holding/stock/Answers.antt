-- `Holding::stock`: PVB is told from the other areas, as in the definition. Assumes nothing.
use Rattle.base.specs.Basics.{arith, eq-eqb, ne_eqb}
use Rattle.rules.specs.Levels.{stock}
use Rattle.risk_holdings.specs.Holdings.{as_holding}
use Rattle.risk_holdings.proofs.Holding.stock.Goals as goal

pub returns-then-area-eq-PVB : goal.returns-then-area-eq-PVB
unfolding stock as_holding
returns-then-area-eq-PVB c = record { result_value = rw (eq-eqb c.args.area 0 (omega arith)); result_bound = omega arith }

pub returns-else-area-eq-PVB : goal.returns-else-area-eq-PVB
unfolding stock as_holding
returns-else-area-eq-PVB c = record { result_value = rw (ne_eqb c.args.area 0 (λ h. omega arith)) c.long.ensures.result_value; result_bound = omega arith }
