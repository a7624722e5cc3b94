-- The total of balances by their sums above 0 and below 0, and what a negative total says of H and of the sum. Assumes nothing.
use Rattle.base.specs.Basics.{◌≡◌, true, false, List, ◌-◌, ◌<◌, ◌≤◌, arith, T, ltb→lt, ℤ, nat_abs, le-ltb, lt-ltb}
use Rattle.base.proofs.Linear.{abs_parts, pos_part_of, neg_part_of}
use Rattle.base.proofs.Sums.{parts_sum}
use Rattle.base.specs.Parts.{pos_part, neg_part}
use Rattle.base.specs.Sums.{sum}
use Rattle.shrinkage.specs.Return.{total, is_below_zero, half, own, own_sum}

module _ (zs : List ℤ) where
  -- the two parts of the total
  total_parts : (neg_part (total zs) ≡ own_sum zs - sum pos_part zs) × (pos_part (total zs) ≡ sum pos_part zs - own_sum zs)
  unfolding total own_sum own
  total_parts =
      let e = parts_sum (λ z. z) zs in
      (neg_part_of (total zs) (sum pos_part zs) (sum neg_part zs) e, pos_part_of (total zs) (sum pos_part zs) (sum neg_part zs) e)

  pub size_is : sum pos_part zs < own_sum zs → nat_abs (total zs) ≡ own_sum zs - sum pos_part zs
  size_is h = omega (arith, abs_parts (total zs), total_parts.0, total_parts.1)

  pub is_negative : sum pos_part zs < own_sum zs → is_below_zero (total zs) ≡ true
  unfolding is_below_zero
  is_negative h = lt-ltb 0 (neg_part (total zs)) (omega (arith, total_parts.0))

  pub not_negative : own_sum zs ≤ sum pos_part zs → is_below_zero (total zs) ≡ false
  unfolding is_below_zero
  not_negative h = le-ltb 0 (neg_part (total zs)) (omega (arith, total_parts.0))

  module _ (t : T (is_below_zero (total zs))) where
    -- a negative total has more below 0 than above
    more_below : sum pos_part zs < own_sum zs
    unfolding is_below_zero
    more_below = let l = ltb→lt 0 (neg_part (total zs)) t in omega (arith, total_parts.0)

    -- so it has negative balances
    pub own_more : 0 < own_sum zs
    own_more = omega (arith, more_below)

    -- and H is at most their sum
    pub half_le : half zs ≤ own_sum zs
    unfolding half
    half_le = omega (arith, size_is more_below)
