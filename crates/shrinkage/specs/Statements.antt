-- Ask 11: what holds of every return and of every share over 30 days. The proofs stand in proofs/Main.antt. Assumes nothing.
use Rattle.std.specs.Prelude.{◌≡◌, ◌+◌, ◌*◌, ◌<◌, ◌≤◌}
use Rattle.base.specs.Basics.{not, List, ℕ, T, ℤ, pos, nat_abs, length, get_or}
use Rattle.base.specs.Sums.{sum}
use Rattle.shrinkage.specs.Days.{values_over_days}
use Rattle.shrinkage.specs.Return.{total, is_below_zero, own, own_sum, half, share_of, remainder_of, nothing, returned}

-- "For a negative total, shares, odd kWh, the account's rest and the half kept, which is H, add up to its absolute value; otherwise all are 0."
pub record AddsUp : Type 0 where
  pub negative : (zs : List ℤ) → (returned zs).number ≡ 0 → T (is_below_zero (total zs))
      → sum (λ n. n) (returned zs).shares + (returned zs).odd + (returned zs).rest + (returned zs).half ≡ nat_abs (total zs)
  pub otherwise : (zs : List ℤ) → (returned zs).number ≡ 0 → T (not (is_below_zero (total zs))) → returned zs ≡ nothing 0
  -- "all 0 after a refusal"
  pub refused : (zs : List ℤ) → ((returned zs).number ≡ 0 → ⊥) → returned zs ≡ nothing (returned zs).number

-- "the whole part of H × own / sum, with the exact remainder of that division beside it", of each user of a negative total
pub record Exact : Type 0 where
  pub whole : (zs : List ℤ) (z : ℤ) → share_of (half zs) (own_sum zs) z * own_sum zs + remainder_of (half zs) (own_sum zs) z ≡ half zs * own z
  pub below : (zs : List ℤ) (z : ℤ) → T (is_below_zero (total zs)) → remainder_of (half zs) (own_sum zs) z < own_sum zs

-- What the user at a place gets, in every return; a place past the users has the balance 0.
pub record Bounded : Type 0 where
  -- no share exceeds the user's own balance
  pub most : (zs : List ℤ) (i : ℕ) → get_or (returned zs).shares i 0 ≤ own (get_or zs i (pos 0))
  -- a balance of 0 or above gets 0, and has no remainder
  pub none : (zs : List ℤ) (i : ℕ) → T (not (is_below_zero (get_or zs i (pos 0))))
      → (get_or (returned zs).shares i 0 ≡ 0) × (get_or (returned zs).remainders i 0 ≡ 0)

-- The days of a share: 30 that add up to it, and differ by at most one kWh.
pub record Spread : Type 0 where
  pub thirty : (share : ℕ) → length (values_over_days share) ≡ 30
  pub whole : (share : ℕ) → sum (λ n. n) (values_over_days share) ≡ share
  pub even : (share i j : ℕ) → i < 30 → j < 30 → get_or (values_over_days share) i 0 ≤ get_or (values_over_days share) j 0 + 1
