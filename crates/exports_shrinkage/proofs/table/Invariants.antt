use Rattle.base.specs.Basics.{get_or}
use Rattle.exports_shrinkage.proofs.Tables.{Filling}
use Rattle.exports_shrinkage.proofs.table.Given as goal

abbrev pub invariant-loop-i : goal.invariant-loop-i
invariant-loop-i l = Filling (get_or l.initial.numbers 0 0) (get_or l.initial.numbers 1 0) (get_or l.initial.numbers 2 0) l.shares l.remainders l.numbers l.i
