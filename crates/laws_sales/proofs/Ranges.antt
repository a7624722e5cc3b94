-- What stands of valid trades that pass a test, with their tariffs, is in the range of a tier. Assumes nothing.
use Rattle.base.specs.Basics.{Bool, true, false, cond, ℕ, ◌≤◌, arith, eqb}
use Rattle.base.proofs.Tests.{by_test}
use Rattle.rules.specs.Areas.{Prices, tariff}

-- what stands where a test holds is at most what stands
pub cond-le : (c : Bool) (n : ℕ) → cond c n 0 ≤ n
cond-le true n = omega arith
cond-le false n = omega arith

-- a tariff is P or Q
pub tariff-le : (f : Prices) (most : ℕ) → f.p ≤ most → f.q ≤ most → (area : ℕ) → tariff f area ≤ most
unfolding tariff
tariff-le f most p q area = by_test (λ (n : ℕ). n ≤ most) (eqb area 0) (λ e. p) (λ e. q)
