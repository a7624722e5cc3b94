-- A tier of a part of the sales: its worth, first sale first; the amount and the rate of each sale. Assumes nothing.
use Rattle.base.specs.Basics.{◌≡◌, refl, sym, ap, ◌∙◌, cond, List, ℕ, ◌+◌, ◌*◌, ◌-◌, ◌≤◌, ◌<◌, mul-zero, arith, ltb, nltb→le, length, get_or}
use Rattle.base.specs.Basics.{length-map, get_or-eq_default}
use Rattle.laws_sales.proofs.Parts.{part_length, part_here, part_none, part_first}
use Rattle.cut_worth.specs.Rates.{rate_in, rated, amounts_in, rates_in, lots_in, Sales, Rates}
use Rattle.base.proofs.Linear.{by_order}
use Rattle.base.proofs.Tests.{by_test}
use Rattle.rules.specs.Shares.{tier_worth}
use Rattle.laws_sales.proofs.Numbers.{read_at, standing_in_at, standing_in_length}
use Rattle.laws_sales.specs.Parts.{part}
use Rattle.laws_sales.specs.Sales.{standing_in}
use Rattle.laws_sales.specs.Lots.{lots_of}

-- what is outside the tier has no worth at its rate
pub weighted : (n rate : ℕ) → cond (ltb 0 rate) n 0 * rate ≡ n * rate
weighted n rate =
    by_test (λ (m : ℕ). m * rate ≡ n * rate) (ltb 0 rate) (λ t. refl)
    (λ f. let z : rate ≡ 0 = omega (arith, nltb→le 0 rate f) in ap (λ (k : ℕ). 0 * k) z ∙ sym (ap (λ (k : ℕ). n * k) z ∙ mul-zero n))

module _ (ss areas rates : List ℕ) (from to : ℕ) where
  -- the worth of no sale
  pub worth_none : to ≤ from → tier_worth (lots_in rates (part from to ss) (part from to areas)) ≡ 0
  unfolding lots_in lots_of standing_in tier_worth
  worth_none h = rw (part_none ss from to h)

  -- the worth is the first sale's, at its rate, and the worth of the rest
  pub worth_first : {rate rest : ℕ} → from < to → Sales ss areas from to → rate ≡ rate_in rates (get_or areas from 0)
      → rest ≡ tier_worth (lots_in rates (part (from + 1) to ss) (part (from + 1) to areas))
      → get_or ss from 0 * rate + rest ≡ tier_worth (lots_in rates (part from to ss) (part from to areas))
  unfolding lots_in lots_of standing_in tier_worth
  worth_first h s e g =
      rw (
        part_first ss from to 0 h (omega (arith, s.inside, s.standing_long)),
        part_first areas from to 0 h (omega (arith, s.inside, s.areas_long)),
        weighted (get_or ss from 0) (rate_in rates (get_or areas from 0)),
        e,
        g,
      )

-- ---- its amounts and its rates

-- no rate is above 100,000
pub rates_most : {rates : List ℕ} → Rates rates → (areas : List ℕ) (k : ℕ) → get_or (rates_in rates areas) k 0 ≤ 100000
rates_most {rates} r areas k =
    by_order k (length areas)
    (λ l. omega (arith, read_at (rate_in rates) areas k 0 0 l, r.most (get_or areas k 0)))
    (λ l. omega (arith, get_or-eq_default (rates_in rates areas) 0 {n = k} (omega (arith, length-map areas (rate_in rates)))))

module _ (areas rates : List ℕ) (from to : ℕ) (inside : to ≤ length areas) where
  -- as many rates as there are places
  pub rates_length : length (rates_in rates (part from to areas)) ≡ to - from
  rates_length = length-map (part from to areas) (rate_in rates) ∙ part_length areas from to inside

  -- the rate of the sale at a place
  pub rate_here : (i : ℕ) → from ≤ i → i < to → get_or (rates_in rates (part from to areas)) (i - from) 0 ≡ rate_in rates (get_or areas i 0)
  rate_here i h k =
      read_at (rate_in rates) (part from to areas) (i - from) 0 0 (omega (arith, part_length areas from to inside))
      ∙ ap (rate_in rates) (part_here areas from to i 0 h k)

-- those from a later place on are a part too
pub sales_behind : {ss areas : List ℕ} {from to : ℕ} → Sales ss areas from to → {start : ℕ} → from ≤ start → Sales ss areas start to
sales_behind s h =
    record {
      inside = s.inside;
      standing_long = s.standing_long;
      areas_long = s.areas_long;
      standing_most = λ i l m. s.standing_most i (omega arith) m;
      area_most = λ i l m. s.area_most i (omega arith) m;
    }

-- the areas reach as far as the sales
pub areas_inside : {ss areas : List ℕ} {from to : ℕ} → Sales ss areas from to → to ≤ length areas
areas_inside s = omega (arith, s.inside, s.areas_long)

-- there is an amount and an area for each place
pub sales_many : {ss areas : List ℕ} {from to : ℕ} → Sales ss areas from to → length (part from to ss) ≡ to - from
sales_many {ss} {from = from} {to = to} s = part_length ss from to (omega (arith, s.inside, s.standing_long))

pub areas_many : {ss areas : List ℕ} {from to : ℕ} → Sales ss areas from to → length (part from to areas) ≡ to - from
areas_many {areas = areas} {from = from} {to = to} s = part_length areas from to (areas_inside s)

module _ (ss areas rates : List ℕ) (from to : ℕ) (s : Sales ss areas from to) where
  -- as many amounts as there are places
  pub amounts_length : length (amounts_in rates (part from to ss) (part from to areas)) ≡ to - from
  amounts_length = standing_in_length (rated rates) (part from to ss) (part from to areas) (areas_many s ∙ sym (sales_many s)) ∙ sales_many s

  -- the amount of the sale at a place
  pub amount_at_lem : (i : ℕ) → from ≤ i → i < to → get_or (amounts_in rates (part from to ss) (part from to areas)) (i - from) 0 ≡ cond (rated rates (get_or areas i 0)) (get_or ss i 0) 0
  amount_at_lem i h k =
      standing_in_at (rated rates) (part from to ss) (part from to areas) (i - from) (omega (arith, sales_many s)) (omega (arith, areas_many s))
      ∙ rw (part_here ss from to i 0 h k, part_here areas from to i 0 h k)
