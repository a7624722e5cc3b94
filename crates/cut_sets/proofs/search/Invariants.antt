use Rattle.base.specs.Basics.{◌≡◌, ◌*◌, ◌^◌, max, min, take}
use Rattle.cut_sets.specs.Counting.{Counting}
use Rattle.cut_sets.proofs.Counting.{Prepared}
use Rattle.cut_sets.proofs.search.Given as goal

abbrev pub invariant-loop-h : goal.invariant-loop-h
invariant-loop-h l = Prepared (take l.n l.worths) (2 ^ l.n) l.asked l.tries l.spare l.sets l.limit l.low l.high × Counting (take l.n l.worths) (2 ^ l.n) l.asked l.tries l.spare l.best × (l.best.made ≡ max 1 (min (256 * l.h) l.limit))
