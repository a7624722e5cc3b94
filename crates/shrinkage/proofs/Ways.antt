-- The ways out of a return, as laws of its definition: one for each `return` of the code. Assumes nothing.
use Rattle.base.specs.Basics.{◌≡◌, sym, ap, ap₂, ◌∙◌, true, false, cond, List, map, ℕ, ◌-◌, ◌/◌, ◌%◌, ◌<◌, ◌≤◌, arith, ℤ, nat_abs, length, le-leb}
use Rattle.base.specs.Basics.{lt-leb}
use Rattle.base.specs.Parts.{pos_part}
use Rattle.base.specs.Sums.{sum}
use Rattle.base.specs.Lists.{all}
use Rattle.rules.specs.Questions.{after, refusal}
use Rattle.shrinkage.proofs.Totals.{size_is, is_negative, not_negative}
use Rattle.shrinkage.specs.Answer.{kwh_of, Summed, Divisible, SharesOf}
use Rattle.shrinkage.specs.Return.{total, is_below_zero, half, odd, own_sum, share_of, remainder_of, shares, remainders, rest, in_places, nothing, given, in_range, about, returned}
use Rattle.shrinkage.specs.declared.Shares.{Shares}
use Rattle.shrinkage.specs.declared.Sums.{Sums}

module _ (zs : List ℤ) where
  -- more than 64 users
  pub too_many : 64 < length zs → nothing 28 ≡ returned zs
  unfolding returned about refusal after
  too_many h = rw (lt-leb (length zs) 64 h)

  module _ (few : length zs ≤ 64) where
    -- a balance out of range
    pub one_out : all in_range zs ≡ false → nothing 27 ≡ returned zs
    unfolding returned about refusal after
    one_out e = rw (le-leb (length zs) 64 few, e)

    module _ {r : Sums} (valid : all in_range zs ≡ true) (s : Summed zs r) where
      -- the sums are those of balances that pass both questions
      accepted : returned zs ≡ cond (is_below_zero (total zs)) (given zs) (nothing 0)
      unfolding returned about refusal after
      accepted = rw (le-leb (length zs) 64 few, valid)

      above_is : r.above.0 ≡ sum pos_part zs
      above_is = s.above

      below_is : r.below.0 ≡ own_sum zs
      below_is = s.below

      -- a total of 0 or above
      pub no_return : r.below.0 ≤ r.above.0 → nothing 0 ≡ returned zs
      no_return h = sym (accepted ∙ rw (not_negative zs (omega (arith, above_is, below_is))))

      -- ---- a negative total

      module _ (h : r.above.0 < r.below.0) where
        -- its absolute value, H and the odd kWh
        total_size : nat_abs (total zs) ≡ r.below.0 - r.above.0
        total_size = size_is zs (omega (arith, above_is, below_is)) ∙ sym (ap₂ (λ b a. b - a) below_is above_is)

        half_is : (r.below.0 - r.above.0) / 2 ≡ half zs
        unfolding half
        half_is = ap (λ (n : ℕ). n / 2) (sym total_size)

        odd_is : (r.below.0 - r.above.0) % 2 ≡ odd zs
        unfolding odd
        odd_is = ap (λ (n : ℕ). n % 2) (sym total_size)

        -- H and the sum may be divided
        pub divisible : Divisible zs ((r.below.0 - r.above.0) / 2) r.below.0
        divisible =
            record { few = few; valid = valid; half_most = omega (arith, s.below_most); sum_is = below_is; some = omega arith }

        -- the answer: H, the odd kWh, the shares with their remainders, and the rest
        pub returns_half : {d : Shares} → SharesOf zs ((r.below.0 - r.above.0) / 2) r.below.0 d
            → record {
              number = 0;
              half = (r.below.0 - r.above.0) / 2;
              odd = (r.below.0 - r.above.0) % 2;
              shares = kwh_of d.shares;
              remainders = d.remainders;
              rest = (r.below.0 - r.above.0) / 2 - d.given.0;
            } ≡ returned zs
        unfolding given shares remainders rest
        returns_half {d} p =
            let all_shares : kwh_of d.shares ≡ in_places (shares zs) = p.shares ∙ ap₂ (λ n m. in_places (map (share_of n m) zs)) half_is below_is in
            let all_remainders : d.remainders ≡ in_places (remainders zs) = p.remainders ∙ ap₂ (λ n m. in_places (map (remainder_of n m) zs)) half_is below_is in
            let all_given : d.given.0 ≡ sum (λ n. n) (shares zs) = p.given ∙ ap₂ (λ n m. sum (λ k. k) (map (share_of n m) zs)) half_is below_is in
            let left : (r.below.0 - r.above.0) / 2 - d.given.0 ≡ rest zs = ap₂ (λ n m. n - m) half_is all_given in
            let same : record {
              number = 0;
              half = (r.below.0 - r.above.0) / 2;
              odd = (r.below.0 - r.above.0) % 2;
              shares = kwh_of d.shares;
              remainders = d.remainders;
              rest = (r.below.0 - r.above.0) / 2 - d.given.0;
            } ≡ given zs = λ i. record { number = 0; half = half_is i; odd = odd_is i; shares = all_shares i; remainders = all_remainders i; rest = left i } in
            same ∙ sym (accepted ∙ rw (is_negative zs (omega (arith, above_is, below_is))))
