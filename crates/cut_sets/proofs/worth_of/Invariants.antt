use Rattle.base.specs.Basics.{◌≡◌, ◌+◌, ◌^◌, ◌≤◌, ◌<◌, take}
use Rattle.cut_sets.specs.Sets.{worth_of_set}
use Rattle.cut_sets.proofs.worth_of.Given as goal

abbrev pub invariant-loop-rest : goal.invariant-loop-rest
invariant-loop-rest l = (l.i ≤ l.n) × (l.rest < 2 ^ l.i) × (l.sum + worth_of_set (take l.i l.worths) l.rest ≡ worth_of_set (take l.n l.worths) l.set)

abbrev pub decreases-loop-rest : goal.decreases-loop-rest
decreases-loop-rest l = l.i
