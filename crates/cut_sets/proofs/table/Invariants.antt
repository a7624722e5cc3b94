use Rattle.base.specs.Basics.{take}
use Rattle.cut_sets.specs.Sets.{worth_of_set}
use Rattle.cut_sets.proofs.Tables.{Filling}
use Rattle.cut_sets.proofs.table.Given as goal

abbrev pub invariant-loop-j : goal.invariant-loop-j
invariant-loop-j l = Filling (worth_of_set (take l.n l.worths)) l.step l.count l.table l.j
