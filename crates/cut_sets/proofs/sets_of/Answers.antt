-- `sets_of`: 2^16 is 65,536. Assumes nothing.
use Rattle.base.specs.Basics.{◌≡◌, ℕ, ◌*◌, ◌^◌, ◌%◌, ◌≤◌, min, arith}
use Rattle.base.proofs.Linear.{by_order}
use lib.Pow.{pow_mono}
use Rattle.cut_sets.proofs.sets_of.Goals as goal

capped : (n m : ℕ) → m ≡ min n 16 → 1 * 2 ^ m % 2 ^ 64 ≡ min (2 ^ n) 65536
capped n m e =
    by_order n 16
    (λ l.
    let same : m ≡ n = omega arith in
    let most : 2 ^ n ≤ 2 ^ 16 = pow_mono {j = 16} (omega arith) in
    rw same (omega arith))
    (λ l.
    let same : m ≡ 16 = omega arith in
    let least : 2 ^ 16 ≤ 2 ^ n = pow_mono {j = n} l in
    rw same (omega arith))

pub returns : goal.returns
returns c = capped _ _ c.min.ensures
