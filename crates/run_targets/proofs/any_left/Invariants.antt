use Rattle.base.specs.Basics.{◌≡◌, ltb}
use Rattle.base.specs.Lists.{any}
use Rattle.laws_sales.specs.Parts.{part}
use Rattle.run_targets.proofs.any_left.Given as goal

abbrev pub invariant-loop-i : goal.invariant-loop-i
invariant-loop-i l = any (λ n. ltb 0 n) (part l.i l.to l.standing) ≡ any (λ n. ltb 0 n) (part l.from l.to l.standing)
