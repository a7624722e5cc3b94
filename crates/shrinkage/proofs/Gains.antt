-- What the user at a place gets: its part of H, which is at most what its own balance is below 0. Assumes nothing.
use Rattle.base.specs.Basics.{◌≡◌, refl, sym, ap, ◌∙◌, Bool, true, false, not, cond, List, [], ◌∷◌, ◌++◌, map, ℕ, zero, suc, ◌*◌}
use Rattle.base.specs.Basics.{◌-◌, ◌/◌, ◌%◌, ◌<◌, ◌≤◌, div-mul-le_self, le_of_mul-le-mul_right, mul_comm, mul-le-mul_right, mul-zero, zero-mod, arith}
use Rattle.base.specs.Basics.{T, ltb, ℤ, pos, length, get_or, replicate, lt-ltb}
use Rattle.base.proofs.Fronts.{none_past}
use Rattle.base.specs.Parts.{neg_part}
use Rattle.rules.specs.Questions.{after, refusal}
use Rattle.shrinkage.proofs.Totals.{own_more, half_le}
use Rattle.shrinkage.specs.Return.{Returned, total, is_below_zero, half, own, own_sum, share_of, remainder_of, shares, remainders, in_places, nothing, given, about, returned}

-- ---- a number for each user, in the user's place

-- past the users it is that of a balance of 0
number_at : (f : ℤ → ℕ) → f (pos 0) ≡ 0 → (zs : List ℤ) (n i : ℕ) → get_or (map f zs ++ replicate n 0) i 0 ≡ f (get_or zs i (pos 0))
number_at f e [] n i = none_past n i 0 ∙ sym e
number_at f e (z ∷ zs) n zero = refl
number_at f e (z ∷ zs) n (suc i) = number_at f e zs n i

-- ---- one share

-- a part of H by a part of the sum, where H is at most the sum
share_le : (h s : ℕ) (z : ℤ) → 0 < s → h ≤ s → share_of h s z ≤ own z
unfolding share_of
share_le h s z p q =
    le_of_mul-le-mul_right {m = h * own z / s} {n = own z} {k = s}
    (omega (arith, div-mul-le_self (h * own z) s, mul-le-mul_right (own z) q, mul_comm s (own z))) p

-- a user that is not below 0 has nothing to divide
own_none : (z : ℤ) → T (not (is_below_zero z)) → own z ≡ 0
unfolding is_below_zero own
own_none z t = go (neg_part z) t
  where
    go : (n : ℕ) → T (not (ltb 0 n)) → n ≡ 0
    go zero u = refl
    go (suc n) u = absurd (rw (lt-ltb 0 (suc n) (omega arith)) at u)

remainder_none : (h s : ℕ) (z : ℤ) → own z ≡ 0 → remainder_of h s z ≡ 0
unfolding remainder_of
remainder_none h s z e = ap (λ (n : ℕ). h * n % s) e ∙ ap (λ (n : ℕ). n % s) (mul-zero h) ∙ zero-mod s

-- ---- in the answer

-- what holds of nothing, and of what a negative total returns, holds of every return
by_way : (zs : List ℤ) (P : Returned → Type 0) → ((n : ℕ) → P (nothing n)) → (T (is_below_zero (total zs)) → P (given zs)) → P (returned zs)
unfolding returned after
by_way zs P empty full = go (refusal (about zs)) (is_below_zero (total zs)) full
  where
    go : (n : ℕ) (c : Bool) → (T c → P (given zs)) → P (after n nothing (cond c (given zs) (nothing 0)))
    go zero true k = k tt
    go zero false k = empty 0
    go (suc n) c k = empty (suc n)

module _ (zs : List ℤ) (i : ℕ) where
  -- the user's own balance, 0 past the users
  balance : ℤ
  balance = get_or zs i (pos 0)

  module _ (t : T (is_below_zero (total zs))) where
    share_of_none : share_of (half zs) (own_sum zs) (pos 0) ≡ 0
    unfolding own neg_part
    share_of_none = omega (arith, share_le (half zs) (own_sum zs) (pos 0) (own_more zs t) (half_le zs t))

    share_at : get_or (given zs).shares i 0 ≡ share_of (half zs) (own_sum zs) balance
    unfolding given in_places shares balance
    share_at = number_at (share_of (half zs) (own_sum zs)) share_of_none zs (64 - length (shares zs)) i

    remainder_at : get_or (given zs).remainders i 0 ≡ remainder_of (half zs) (own_sum zs) balance
    unfolding given in_places remainders balance own neg_part
    remainder_at = number_at (remainder_of (half zs) (own_sum zs)) (remainder_none (half zs) (own_sum zs) (pos 0) refl) zs (64 - length (remainders zs)) i

    given-le : get_or (given zs).shares i 0 ≤ own balance
    given-le = rw share_at (share_le (half zs) (own_sum zs) balance (own_more zs t) (half_le zs t))

  pub share_most : get_or (returned zs).shares i 0 ≤ own (get_or zs i (pos 0))
  unfolding nothing balance
  share_most = by_way zs (λ r. get_or r.shares i 0 ≤ own (get_or zs i (pos 0))) (λ n. omega (arith, none_past {A = ℕ} 64 i 0)) given-le

  pub none_gained : T (not (is_below_zero (get_or zs i (pos 0)))) → (get_or (returned zs).shares i 0 ≡ 0) × (get_or (returned zs).remainders i 0 ≡ 0)
  unfolding nothing balance
  none_gained u =
      let e = own_none (get_or zs i (pos 0)) u in
      by_way zs (λ r. (get_or r.shares i 0 ≡ 0) × (get_or r.remainders i 0 ≡ 0))
      (λ n. (none_past {A = ℕ} 64 i 0, none_past {A = ℕ} 64 i 0))
      (λ t. (omega (arith, given-le t, e), remainder_at t ∙ remainder_none (half zs) (own_sum zs) (get_or zs i (pos 0)) e))
