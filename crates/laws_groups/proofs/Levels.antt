-- Levels and flag depend on what is held in each area, and on nothing else of users and trades: so in a book without managers they are document 01's. Assumes nothing.
use Rattle.base.specs.Basics.{◌≡◌, ap, ◌∙◌, ℕ, ◌+◌, ◌*◌, ltb, ℤ, pos, ◌+ℤ◌, ◌-ℤ◌, get_or}
use Rattle.base.proofs.Sums.{sum_ext}
use Rattle.base.specs.Parts.{neg_part, pos_part}
use Rattle.base.specs.Sums.{sum}
use Rattle.laws.proofs.Sound.{sound}
use Rattle.laws.specs.Statements.{own_holding}
use Rattle.laws_sales.proofs.Alone.{own_risk}
use Rattle.rules.specs.Areas.{Prices, areas, reference_price_of, selling_tariff_of}
use Rattle.rules.specs.Book.{nobody}
use Rattle.rules.specs.Levels.{Holding, afternoon_level, need_of_afternoon, afternoon_sum, credit, exposure, flagged, floored, holding, lowest_reference_price, morning_level, need_of_morning, morning_sum}
use Rattle.laws_groups.specs.Statements.{LevelsAsBefore}

-- the same is held in every area
module _ (f : Prices) (g h : ℕ → Holding) (same : (area : ℕ) → g area ≡ h area) where
  -- a sum over the areas of what is taken of each
  over_areas : (worth : ℕ → Holding → ℕ) → sum (λ area. worth area (g area)) areas ≡ sum (λ area. worth area (h area)) areas
  over_areas worth = sum_ext (λ area. worth area (g area)) (λ area. worth area (h area)) (λ area. ap (worth area) (same area)) areas

  exposure_same : exposure f g ≡ exposure f h
  unfolding exposure
  exposure_same = over_areas (λ area k. neg_part k.position * reference_price_of f area)

  credit_same : credit f g ≡ credit f h
  unfolding credit
  credit_same = over_areas (λ area k. pos_part k.position * selling_tariff_of f area)

  morning_same : (charges : ℤ) → morning_sum f g charges ≡ morning_sum f h charges
  unfolding morning_sum
  morning_same charges = ap (λ (n : ℕ). charges +ℤ pos n) (over_areas (λ area k. pos_part (need_of_morning k) * reference_price_of f area))

  afternoon_same : (charges : ℤ) → afternoon_sum f g charges ≡ afternoon_sum f h charges
  unfolding afternoon_sum
  afternoon_same charges =
      let need : (ℕ → Holding) → ℕ = λ k. sum (λ area. pos_part (need_of_afternoon area (k area)) * reference_price_of f area) areas in
      ap (λ (n : ℕ). charges +ℤ pos n +ℤ pos (exposure f g) -ℤ pos (credit f g)) (over_areas (λ area k. pos_part (need_of_afternoon area k) * reference_price_of f area))
      ∙ ap (λ (n : ℕ). charges +ℤ pos (need h) +ℤ pos n -ℤ pos (credit f g)) exposure_same
      ∙ ap (λ (n : ℕ). charges +ℤ pos (need h) +ℤ pos (exposure f h) -ℤ pos n) credit_same

pub levels_as_before : LevelsAsBefore
unfolding morning_level afternoon_level flagged
levels_as_before =
    record {
      morning = λ limits b i t e l.
          let u = get_or b.users i nobody in
          ap (floored limits) (morning_same b.header.prices (holding b u) (own_holding b u) ((own_risk b (sound b t) e).held i l) u.party.charges);
      afternoon = λ limits b i t e l.
          let u = get_or b.users i nobody in
          ap (floored limits) (afternoon_same b.header.prices (holding b u) (own_holding b u) ((own_risk b (sound b t) e).held i l) u.party.charges);
      flag = λ limits b i t e l.
          let u = get_or b.users i nobody in
          ap (ltb (limits.flag_mwh * lowest_reference_price b.header.prices + u.blocked)) (exposure_same b.header.prices (holding b u) (own_holding b u) ((own_risk b (sound b t) e).held i l));
    }
