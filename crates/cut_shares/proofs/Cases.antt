-- The cuts of a tier of a part of the sales by cases, each added to the cuts that were there before. Assumes nothing.
use Rattle.base.specs.Basics.{◌≡◌, refl, sym, ap, subst, ◌∙◌, true, false, ◌||◌, List, [], ◌∷◌, map, ℕ, ◌-◌, ◌≤◌, ◌<◌, arith, eqb, length, length-map}
use Rattle.base.specs.Basics.{sets}
use Rattle.cut_shares.proofs.Adding.{cuts_length, cuts_worthless, sums_length}
use Rattle.cut_shares.proofs.Lifted.{together_none, Worthless, lifted_cuts, lifted_turns}
use Rattle.cut_shares.specs.Cuts.{Untouched, added, shares_in, WholeParts}
use Rattle.laws_sales.proofs.Parts.{part_length, stored_part, stored_over}
use Rattle.cut_worth.proofs.Rates.{areas_inside, amounts_length, rates_length}
use Rattle.cut_worth.specs.Rates.{amounts_in, rates_in, lots_in, Sales}
use Rattle.laws.proofs.Shares.{tier_length}
use Rattle.rules.specs.Reduction.{together}
use Rattle.rules.specs.Shares.{Share, share_of, tier_worth, shares_by_turns, cuts_of_tier}
use Rattle.laws_sales.specs.Parts.{part}
use Rattle.cut_shares.proofs.Cuts.{cuts_none, cuts_whole, cuts_part}
use Rattle.laws_sales.proofs.Lots.{lots_length}
use Rattle.laws_sales.specs.Lots.{lots_of}

-- the rates of shares are those of the lots
share_rates : (asked worth : ℕ) (ns ts : List ℕ) → length ts ≡ length ns → map (λ s. s.tariff) (map (share_of asked worth) (lots_of ns ts)) ≡ ts
unfolding share_of lots_of
share_rates asked worth [] [] e = refl
share_rates asked worth [] (t ∷ ts) e = absurd (omega arith)
share_rates asked worth (n ∷ ns) [] e = refl
share_rates asked worth (n ∷ ns) (t ∷ ts) e = ap (λ (xs : List ℕ). t ∷ xs) (share_rates asked worth ns ts (omega arith))

module _ {ss areas rates cuts : List ℕ} {from to : ℕ} (s : Sales ss areas from to) (u : Untouched rates areas cuts from to) (asked v : ℕ)
    (w : v ≡ tier_worth (lots_in rates (part from to ss) (part from to areas))) where
  same : length (rates_in rates (part from to areas)) ≡ length (amounts_in rates (part from to ss) (part from to areas))
  same = rates_length areas rates from to (areas_inside s) ∙ sym (amounts_length ss areas rates from to s)

  -- nothing is asked, or nothing is there
  pub tier_none : (eqb asked 0 || eqb v 0) ≡ true → cuts ≡ added from to cuts (cuts_of_tier asked (lots_in rates (part from to ss) (part from to areas)))
  unfolding lots_in added
  tier_none t =
      let none : map (λ b. 0) (part from to cuts) ≡ cuts_of_tier asked (lots_in rates (part from to ss) (part from to areas))
      = cuts_none (amounts_in rates (part from to ss) (part from to areas)) (rates_in rates (part from to areas)) same asked v w t (part from to cuts)
      (cuts_length s.inside u ∙ sym (amounts_length ss areas rates from to s)) in
      sym (stored_part cuts from to u.rising (omega (arith, u.long, s.inside)))
      ∙ ap (sets cuts from) (sym (together_none (part from to cuts)) ∙ ap (together (part from to cuts)) none)

  -- as much is asked as there is, or more
  pub tier_whole : {now : List ℕ} → (eqb asked 0 || eqb v 0) ≡ false → v ≤ asked → now ≡ added from to cuts (amounts_in rates (part from to ss) (part from to areas))
      → now ≡ added from to cuts (cuts_of_tier asked (lots_in rates (part from to ss) (part from to areas)))
  unfolding lots_in
  tier_whole f l e =
      e ∙ ap (added from to cuts) (cuts_whole (amounts_in rates (part from to ss) (part from to areas)) (rates_in rates (part from to areas)) same asked v w f l)

  -- less is asked
  pub tier_shared : {parted rests now : List ℕ} {lost place : ℕ} → (eqb asked 0 || eqb v 0) ≡ false → asked < v
      → WholeParts ss areas rates asked v from to cuts parted rests lost place
      → now ≡ sets parted from (map (λ s. s.cut) (shares_by_turns (to - from) asked (shares_in from to rates areas parted rests)))
      → now ≡ added from to cuts (cuts_of_tier asked (lots_in rates (part from to ss) (part from to areas)))
  unfolding lots_in added
  tier_shared {parted} {rests} {now} f l p e =
      let bs = part from to cuts in
      let ns = amounts_in rates (part from to ss) (part from to areas) in
      let ts = rates_in rates (part from to areas) in
      let shares : List Share = map (share_of asked v) (lots_of ns ts) in
      let many : length shares ≡ to - from = length-map (lots_of ns ts) (share_of asked v) ∙ lots_length ns ts same ∙ amounts_length ss areas rates from to s in
      let worthless : Worthless bs (map (λ s. s.tariff) shares) = subst (Worthless bs) (sym (share_rates asked v ns ts same)) (cuts_worthless s.inside u s) in
      let tier : map (λ s. s.cut) (shares_by_turns (to - from) asked shares) ≡ cuts_of_tier asked (lots_of ns ts)
      = cuts_part ns ts same asked v w f l shares refl
      (ap (λ (n : ℕ). map (λ s. s.cut) (shares_by_turns n asked shares)) (sym (rates_length areas rates from to (areas_inside s)))) in
      let turned : map (λ s. s.cut) (shares_by_turns (to - from) asked (shares_in from to rates areas parted rests)) ≡ together bs (cuts_of_tier asked (lots_of ns ts))
      = ap (λ (zs : List Share). map (λ s. s.cut) (shares_by_turns (to - from) asked zs)) p.shares
      ∙ ap (map (λ s. s.cut)) (lifted_turns (to - from) asked bs shares (cuts_length s.inside u ∙ sym many) worthless)
      ∙ lifted_cuts bs (shares_by_turns (to - from) asked shares)
      ∙ ap (together bs) tier in
      let sums : length (together bs (cuts_of_tier asked (lots_of ns ts))) ≡ to - from
      = sums_length s.inside u (cuts_of_tier asked (lots_of ns ts)) (tier_length asked (lots_of ns ts) ∙ lots_length ns ts same ∙ amounts_length ss areas rates from to s) in
      let before : length (part from to parted) ≡ to - from = part_length parted from to (omega (arith, p.turnable.cuts_long, s.inside)) in
      e ∙ ap (sets parted from) turned
      ∙ ap (λ (zs : List ℕ). sets zs from (together bs (cuts_of_tier asked (lots_of ns ts)))) p.others
      ∙ stored_over cuts (part from to parted) (together bs (cuts_of_tier asked (lots_of ns ts))) from (sums ∙ sym before) (omega (arith, before, u.long, s.inside, u.rising))
