-- A tier of a part of the sales: what stands of each sale and its area, in two lists, and a rate for each area. Assumes nothing.
use Rattle.std.specs.Prelude.{◌≡◌, ◌≤◌, ◌<◌}
use Rattle.base.specs.Basics.{Bool, List, map, ℕ, ltb, length, get_or}
use Rattle.rules.specs.Shares.{Lot}
use Rattle.laws_sales.specs.Sales.{standing_in}
use Rattle.laws_sales.specs.Lots.{lots_of}

-- the rate of an area
abbrev pub rate_in : List ℕ → ℕ → ℕ
rate_in rates area = get_or rates area 0

-- the area belongs to the tier
abbrev pub rated : List ℕ → ℕ → Bool
rated rates area = ltb 0 (rate_in rates area)

-- what stands of each sale in the tier, 0 of one that does not belong to it
abbrev pub amounts_in : List ℕ → List ℕ → List ℕ → List ℕ
amounts_in rates standing areas = standing_in (rated rates) standing areas

-- and the rate of its area
abbrev pub rates_in : List ℕ → List ℕ → List ℕ
rates_in rates areas = map (rate_in rates) areas

-- the tier
unfoldable pub lots_in : List ℕ → List ℕ → List ℕ → List Lot
lots_in rates standing areas = lots_of (amounts_in rates standing areas) (rates_in rates areas)

-- a part of two arrays of sales: at most 100,000 MWh stand of a sale, and there are three areas
pub record Sales (standing areas : List ℕ) (from to : ℕ) : Type 0 where
  pub inside : to ≤ 256
  pub standing_long : length standing ≡ 256
  pub areas_long : length areas ≡ 256
  pub standing_most : (i : ℕ) → from ≤ i → i < to → get_or standing i 0 ≤ 100000
  pub area_most : (i : ℕ) → from ≤ i → i < to → get_or areas i 0 < 3

-- no rate is above 100,000
pub record Rates (rates : List ℕ) : Type 0 where
  pub most : (i : ℕ) → get_or rates i 0 ≤ 100000
