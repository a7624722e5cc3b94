use Rattle.risk_bearers.specs.Rows.{RowsTo}
use Rattle.risk_bearers.proofs.bear_amounts.Given as goal

abbrev pub invariant-loop-i : goal.invariant-loop-i
invariant-loop-i l = RowsTo l.i 0 l.own l.bearers l.rows

abbrev pub invariant-loop-area : goal.invariant-loop-area
invariant-loop-area l = RowsTo l.i l.area l.own l.bearers l.rows
