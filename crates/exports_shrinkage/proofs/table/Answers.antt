-- `table` fills in one user more at each turn, after the three amounts. Assumes nothing.
use Rattle.base.specs.Basics.{arith}
use Rattle.exports_shrinkage.proofs.Tables.{filling_start, filling_more, filling_end}
use Rattle.exports_shrinkage.proofs.table.Goals as goal

pub bounds-numbers-0 : goal.bounds-numbers-0
bounds-numbers-0 c = omega arith

pub bounds-numbers-1 : goal.bounds-numbers-1
bounds-numbers-1 c = omega arith

pub bounds-numbers-2 : goal.bounds-numbers-2
bounds-numbers-2 c = omega arith

pub loop-i-init : goal.loop-i-init
loop-i-init c = filling_start (omega (arith, c.well_formed)) (omega (arith, c.well_formed))

pub offset_bounds-shares-i : goal.offset_bounds-shares-i
offset_bounds-shares-i c = omega arith

pub bounds-shares-i : goal.bounds-shares-i
bounds-shares-i c = omega arith

pub overflow_add-numbers : goal.overflow_add-numbers
overflow_add-numbers c = omega arith

pub offset_bounds-numbers-i : goal.offset_bounds-numbers-i
offset_bounds-numbers-i c = omega arith

pub bounds-numbers-i : goal.bounds-numbers-i
bounds-numbers-i c = omega arith

pub offset_bounds-remainders-i : goal.offset_bounds-remainders-i
offset_bounds-remainders-i c = omega arith

pub bounds-remainders-i : goal.bounds-remainders-i
bounds-remainders-i c = omega arith

pub overflow_add-numbers-in-loop-i : goal.overflow_add-numbers-in-loop-i
overflow_add-numbers-in-loop-i c = omega arith

pub offset_bounds-numbers-i-in-loop-i : goal.offset_bounds-numbers-i-in-loop-i
offset_bounds-numbers-i-in-loop-i c = omega arith

pub bounds-numbers-i-in-loop-i : goal.bounds-numbers-i-in-loop-i
bounds-numbers-i-in-loop-i c = omega arith

pub loop-i-preserved : goal.loop-i-preserved
loop-i-preserved c = filling_more c.loop-i.invariant (record { 0 = 0 }) (omega arith)

pub returns : goal.returns
returns c = filling_end c.loop-i.invariant (omega arith)
