-- Cuts of a tier added to those of a part of the sales, in a loop over the part: a sale of the tier has none yet. Assumes nothing.
use Rattle.base.specs.Basics.{◌≡◌, sym, ap, ◌∙◌, List, ℕ, ◌+◌, ◌*◌, ◌-◌, ◌≤◌, ◌<◌, zero-mul, mul-zero, arith, length, get_or, set, get_or-eq_default}
use Rattle.laws.proofs.Cuts.{length-together}
use Rattle.cut_shares.proofs.Lifted.{together_at, Worthless}
use Rattle.cut_shares.specs.Cuts.{Untouched, added}
use Rattle.laws_sales.proofs.Parts.{part_length, part_at, part_here}
use Rattle.cut_worth.proofs.Rates.{areas_inside, rate_here}
use Rattle.base.proofs.Storing.{Storing, storing_more, storing_end}
use Rattle.cut_worth.specs.Rates.{rate_in, rates_in, Sales}
use Rattle.base.proofs.Linear.{by_order}
use Rattle.rules.specs.Reduction.{together}
use Rattle.laws_sales.specs.Parts.{part}

module _ {rates areas cuts : List ℕ} {from to : ℕ} (inside : to ≤ 256) (u : Untouched rates areas cuts from to) where
  -- as many as there are places
  pub cuts_length : length (part from to cuts) ≡ to - from
  cuts_length = part_length cuts from to (omega (arith, u.long))

  module _ (xs : List ℕ) (many : length xs ≡ to - from) where
    pub sums_length : length (together (part from to cuts) xs) ≡ to - from
    sums_length = length-together (part from to cuts) xs (many ∙ sym cuts_length) ∙ cuts_length

    -- the sum at a place
    pub sum_at : (i : ℕ) → from ≤ i → i < to → get_or (together (part from to cuts) xs) (i - from) 0 ≡ get_or cuts i 0 + get_or xs (i - from) 0
    sum_at i h k =
        together_at (part from to cuts) xs (many ∙ sym cuts_length) (i - from)
        ∙ ap (λ (n : ℕ). n + get_or xs (i - from) 0) (part_here cuts from to i 0 h k)

    -- one sale more
    pub adding_more : {now now' : List ℕ} {i : ℕ} (x : ℕ) → from ≤ i → i < to → x ≡ get_or xs (i - from) 0 → now' ≡ set now i (get_or now i 0 + x)
        → Storing (together (part from to cuts) xs) from cuts now i → Storing (together (part from to cuts) xs) from cuts now' (i + 1)
    adding_more {now} {now'} {i} x h k e f s =
        rw f (storing_more s (get_or now i 0 + x) 0 h (omega (arith, sums_length)) (omega (arith, sum_at i h k, s.after i 0 (omega arith))))

    -- after the last
    pub adding_end : {now : List ℕ} {i : ℕ} → i ≡ to → Storing (together (part from to cuts) xs) from cuts now i → now ≡ added from to cuts xs
    unfolding added
    adding_end h s = storing_end s (omega (arith, sums_length, u.rising))

  -- the cuts that were there before have no worth at the tier's rates
  pub cuts_worthless : {ss : List ℕ} → Sales ss areas from to → Worthless (part from to cuts) (rates_in rates (part from to areas))
  unfolding Worthless
  cuts_worthless {ss} s k =
      by_order k (to - from)
      (λ l.
      let here : from + k - from ≡ k = omega arith in
      let cut = part_at cuts from to k 0 (omega arith) in
      let rate : get_or (rates_in rates (part from to areas)) k 0 ≡ rate_in rates (get_or areas (from + k) 0)
      = ap (λ (n : ℕ). get_or (rates_in rates (part from to areas)) n 0) (sym here) ∙ rate_here areas rates from to (areas_inside s) (from + k) (omega arith) (omega arith) in
      by_order 0 (rate_in rates (get_or areas (from + k) 0))
      (λ h. ap (λ (n : ℕ). n * get_or (rates_in rates (part from to areas)) k 0) (cut ∙ u.none_yet (from + k) (omega arith) (omega arith) h) ∙ zero-mul _)
      (λ h. ap (λ (n : ℕ). get_or (part from to cuts) k 0 * n) (let z : get_or (rates_in rates (part from to areas)) k 0 ≡ 0 = omega arith in z) ∙ mul-zero _))
      (λ l. ap (λ (n : ℕ). n * get_or (rates_in rates (part from to areas)) k 0) (get_or-eq_default (part from to cuts) 0 {n = k} (omega (arith, cuts_length))) ∙ zero-mul _)
