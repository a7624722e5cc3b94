-- The cuts of a tier in which all trades that fail a test stand at 0: the cuts of the tier without them, and 0 for each of them. A lot of 0 has share 0 and
-- remainder 0: it has no worth, loses nothing, and no rank sees it. Assumes nothing.
use Rattle.base.specs.Basics.{◌≡◌, refl, sym, ap, ap₂, ◌∙◌, ⊎_elim, Bool, false, not, cond, ◌&&◌, ◌||◌, List, [], ◌∷◌, map, map-map, ℕ, ◌+◌, ◌*◌, ◌/◌, ◌%◌, ◌<◌}
use Rattle.base.specs.Basics.{zero-mul, eq-zero-or-pos, zero-div, zero-mod, arith, T, leb, ltb, eqb, le-ltb, lt-leb}
use Rattle.base.proofs.Tests.{by_case, fails}
use Rattle.base.specs.Sums.{sum}
use Rattle.laws.proofs.Ranks.{proportion_rank}
use Rattle.laws.specs.Ranks.{worth_where, worth_before, cut_by_rank, cuts_after, by_rank}
use Rattle.rules.specs.Shares.{Lot, tier_worth, Share, share_of, loss, in_proportion, cuts_of_tier}
use Rattle.laws_sales.proofs.Kept.{kept_yes, kept_no, spread_yes, spread_no, spread-map}
use Rattle.laws_sales.specs.Kept.{kept, spread}

-- ---- shares

-- a cut by rank depends on the worth ranked before it, and only where the remainder is above 0
cut_by_worth : (asked whole : ℕ) (earlier earlier' : List Share) (s : Share) (later later' : List Share)
    → (0 < s.remainder → worth_before earlier s.remainder later ≡ worth_before earlier' s.remainder later')
    → cut_by_rank asked whole earlier s later ≡ cut_by_rank asked whole earlier' s later'
unfolding cut_by_rank
cut_by_worth asked whole earlier earlier' s later later' e =
    ⊎_elim
    (λ z. rw (le-ltb 0 s.remainder (omega arith)))
    (λ h. ap (λ (n : ℕ). s.cut + cond (ltb 0 s.remainder && ltb (whole + n) asked) 1 0) (e h))
    (eq-zero-or-pos s.remainder)

-- a share that is cut by nothing and has no remainder
record Spent (s : Share) : Type 0 where
  cut : s.cut ≡ 0
  remainder : s.remainder ≡ 0

-- it loses nothing
spent_cut : (asked whole : ℕ) (earlier : List Share) (s : Share) (later : List Share) → Spent s → cut_by_rank asked whole earlier s later ≡ 0
unfolding cut_by_rank
spent_cut asked whole earlier s later z = rw (le-ltb 0 s.remainder (omega (arith, z.remainder)), z.cut)

module _ {A : Type 0} (p : A → Bool) (share : A → Share) (spent : (x : A) → T (not (p x)) → Spent (share x)) where
  -- the loss is that of the shares that pass
  loss-kept : (xs : List A) → loss (map share xs) ≡ loss (map share (kept p xs))
  unfolding loss sum kept
  loss-kept [] = refl
  loss-kept (x ∷ xs) =
      by_case (p x)
      (λ e. rw e (ap (λ (n : ℕ). (share x).cut * (share x).tariff + n) (loss-kept xs)))
      (λ e. rw e (omega (arith, loss-kept xs, ap (λ (n : ℕ). n * (share x).tariff) (spent x (fails e)).cut, zero-mul (share x).tariff)))

  -- and so is the worth of one MWh of each that passes a test, where no remainder of 0 does
  where_kept : (passes : ℕ → Bool) → passes 0 ≡ false → (xs : List A) → worth_where passes (map share xs) ≡ worth_where passes (map share (kept p xs))
  unfolding worth_where sum kept
  where_kept passes z [] = refl
  where_kept passes z (x ∷ xs) =
      by_case (p x)
      (λ e. rw e (ap (λ (n : ℕ). cond (passes (share x).remainder) (share x).tariff 0 + n) (where_kept passes z xs)))
      (λ e. rw (e, (spent x (fails e)).remainder, z) (omega (arith, where_kept passes z xs)))

  -- the cuts are those of the shares that pass, where the earlier shares are worth the same
  cuts-kept : (asked whole : ℕ) (earlier earlier' : List Share)
      → ((r : ℕ) → 0 < r → worth_where (λ n. leb r n) earlier ≡ worth_where (λ n. leb r n) earlier')
      → (xs : List A) → cuts_after asked whole earlier (map share xs) ≡ spread p xs (cuts_after asked whole earlier' (map share (kept p xs)))
  unfolding cuts_after spread worth_before worth_where sum
  cuts-kept asked whole earlier earlier' same [] = refl
  cuts-kept asked whole earlier earlier' same (x ∷ xs) =
      by_case (p x)
      (λ e. rw (kept_yes p x xs e, spread_yes p x xs (cut_by_rank asked whole earlier' (share x) (map share (kept p xs))) (cuts_after asked whole (share x ∷ earlier') (map share (kept p xs))) e)
      (ap₂ (λ (n : ℕ) (ns : List ℕ). n ∷ ns)
      (cut_by_worth asked whole earlier earlier' (share x) (map share xs) (map share (kept p xs))
      (λ h. ap₂ (λ (m n : ℕ). m + n) (same (share x).remainder h) (where_kept (λ n. ltb (share x).remainder n) (le-ltb (share x).remainder 0 (omega arith)) xs)))
      (cuts-kept asked whole (share x ∷ earlier) (share x ∷ earlier')
      (λ r h. ap (λ (n : ℕ). cond (leb r (share x).remainder) (share x).tariff 0 + n) (same r h)) xs)))
      (λ e. rw (kept_no p x xs e, spread_no p x xs (cuts_after asked whole earlier' (map share (kept p xs))) e)
      (ap₂ (λ (n : ℕ) (ns : List ℕ). n ∷ ns)
      (spent_cut asked whole earlier (share x) (map share xs) (spent x (fails e)))
      (cuts-kept asked whole (share x ∷ earlier) earlier'
      (λ r h. rw ((spent x (fails e)).remainder, lt-leb r 0 h) (omega (arith, same r h))) xs)))

  by_rank_kept : (asked : ℕ) (xs : List A) → by_rank asked (map share xs) ≡ spread p xs (by_rank asked (map share (kept p xs)))
  unfolding by_rank
  by_rank_kept asked xs = rw (loss-kept xs) (cuts-kept asked (loss (map share (kept p xs))) [] [] (λ r h. refl) xs)

-- ---- lots

-- the share of a lot of 0
share_spent : (asked worth : ℕ) (x : Lot) → x.standing ≡ 0 → Spent (share_of asked worth x)
unfolding share_of
share_spent asked worth x e = record {
  cut = ap (λ (n : ℕ). n * asked / worth) e ∙ ap (λ (n : ℕ). n / worth) (zero-mul asked) ∙ zero-div worth;
  remainder = ap (λ (n : ℕ). n * asked % worth) e ∙ ap (λ (n : ℕ). n % worth) (zero-mul asked) ∙ zero-mod worth;
}

module _ {A : Type 0} (p : A → Bool) (lot_of : A → Lot) (none : (x : A) → T (not (p x)) → (lot_of x).standing ≡ 0) where
  -- the tier's worth is that of the lots that pass
  pub worth_kept : (xs : List A) → tier_worth (map lot_of xs) ≡ tier_worth (map lot_of (kept p xs))
  unfolding tier_worth kept
  worth_kept [] = refl
  worth_kept (x ∷ xs) =
      by_case (p x)
      (λ e. rw e (ap (λ (n : ℕ). (lot_of x).standing * (lot_of x).tariff + n) (worth_kept xs)))
      (λ e. rw e (omega (arith, worth_kept xs, ap (λ (n : ℕ). n * (lot_of x).tariff) (none x (fails e)), zero-mul (lot_of x).tariff)))

  proportion_kept : (asked : ℕ) (xs : List A) → in_proportion asked (map lot_of xs) ≡ spread p xs (in_proportion asked (map lot_of (kept p xs)))
  proportion_kept asked xs =
      let v = tier_worth (map lot_of (kept p xs)) in
      proportion_rank asked (map lot_of xs)
      ∙ ap (λ (n : ℕ). by_rank asked (map (share_of asked n) (map lot_of xs))) (worth_kept xs)
      ∙ ap (by_rank asked) (map-map (share_of asked v) lot_of xs)
      ∙ by_rank_kept p (λ x. share_of asked v (lot_of x)) (λ x h. share_spent asked v (lot_of x) (none x h)) asked xs
      ∙ ap (λ (ss : List Share). spread p xs (by_rank asked ss)) (sym (map-map (share_of asked v) lot_of (kept p xs)))
      ∙ ap (spread p xs) (sym (proportion_rank asked (map lot_of (kept p xs))))

  -- so are its cuts
  pub tier_kept : (asked : ℕ) (xs : List A) → cuts_of_tier asked (map lot_of xs) ≡ spread p xs (cuts_of_tier asked (map lot_of (kept p xs)))
  unfolding cuts_of_tier
  tier_kept asked xs =
      let v = tier_worth (map lot_of (kept p xs)) in
      rw (worth_kept xs)
      (by_case (eqb asked 0 || eqb v 0) (λ n. rw n (read (λ x. 0) (λ x h. refl)))
      (λ n. by_case (leb v asked) (λ w. rw (n, w) (read (λ x. x.standing) none)) (λ w. rw (n, w) (proportion_kept asked xs))))
    where
      read : (f : Lot → ℕ) → ((x : A) → T (not (p x)) → f (lot_of x) ≡ 0) → map f (map lot_of xs) ≡ spread p xs (map f (map lot_of (kept p xs)))
      read f z = map-map f lot_of xs ∙ spread-map p (λ x. f (lot_of x)) z xs ∙ ap (spread p xs) (sym (map-map f lot_of (kept p xs)))
