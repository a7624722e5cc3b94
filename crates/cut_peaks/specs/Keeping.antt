-- What is kept of a seller between two reductions, and the cuts of a reduction that are told by it. Assumes nothing.
use Rattle.std.specs.Prelude.{◌≡◌, ◌∷◌, ◌+◌, ◌-◌, ◌≤◌, ◌<◌}
use Rattle.base.specs.Basics.{Bool, true, false, cond, List, [], ℕ, max, min, length, get_or, sets}
use Rattle.cut_tiers.specs.Tiers.{cuts_of, rates_for, short_by}
use Rattle.cut_worth.specs.Rates.{lots_in, rated}
use Rattle.laws_sales.specs.Parts.{part}
use Rattle.rules.specs.Areas.{Prices}
use Rattle.rules.specs.Shares.{tier_worth}
use Rattle.cut_peaks.specs.Peaks.{Peaked, amount_at_place, tier_of}
use Rattle.cut_peaks.specs.declared.Choice.{Choice}
use Rattle.cut_peaks.specs.declared.Choice.TheVariants.{Filled, Partial}
use Rattle.cut_peaks.specs.declared.Heights.{Heights}
use Rattle.cut_peaks.specs.declared.Kept.{Kept}

-- the amount of an area
abbrev pub height_in : Heights → ℕ → ℕ
height_in h area = get_or (h.pvb ∷ h.tvb ∷ h.avb ∷ []) area 0

-- no sale from..to stands above the amount of its area
pub record Below (h : Heights) (ns areas : List ℕ) (from to : ℕ) : Type 0 where
  pub most : (i : ℕ) → from ≤ i → i < to → get_or ns i 0 ≤ height_in h (get_or areas i 0)
  pub few : (area : ℕ) → area < 3 → height_in h area ≤ 100000

-- what every sale is bounded by
abbrev pub bounded : Heights
bounded = record { pvb = 100000; tvb = 100000; avb = 100000 }

-- the largest of those of a tier, at least 1
abbrev pub height_of_tier : Heights → List ℕ → ℕ
height_of_tier h rates = max (max (max 1 (cond (rated rates 0) h.pvb 0)) (cond (rated rates 1) h.tvb 0)) (cond (rated rates 2) h.avb 0)

-- where those of a tier are at most an amount
abbrev pub lowered_to : Heights → List ℕ → ℕ → Heights
lowered_to h rates most =
    record {
      pvb = cond (rated rates 0) (min h.pvb most) h.pvb;
      tvb = cond (rated rates 1) (min h.tvb most) h.tvb;
      avb = cond (rated rates 2) (min h.avb most) h.avb;
    }

-- the seller's position is negative in the area
abbrev pub short_of : Kept → ℕ → Bool
short_of k = short_by k.short

-- the rates of the tier that its sales lose from
unfoldable pub tier_rates : Prices → Kept → List ℕ
tier_rates f k = rates_for f (tier_of k.second (short_of k))

-- what is kept after cuts that are worth some amount, up to the next of the highest sales
abbrev pub swept_to : Kept → ℕ → ℕ → Kept
swept_to k end lost =
    record { short = k.short; second = k.second; worth = k.worth - lost; mwh = k.mwh; place = end; heights = k.heights }

-- the same areas as an array says
pub record SameShort (k : Kept) (short : List Bool) : Type 0 where
  pub each : (area : ℕ) → area < 3 → short_of k area ≡ get_or short area false

-- what is kept is that of the sales from..to: the worth of the tier, the next of its highest sales, and what none stands above; it is tier two only where tier one is worth nothing
pub record KeptFor (f : Prices) (k : Kept) (ns areas : List ℕ) (from to : ℕ) : Type 0 where
  pub worth_is : k.worth ≡ tier_worth (lots_in (tier_rates f k) (part from to ns) (part from to areas))
  pub worth_most : k.worth ≤ 2560000000000
  pub peaked : Peaked (tier_rates f k) ns areas from to k.place k.mwh
  pub below : Below k.heights ns areas from to
  pub first_none : k.second ≡ true → tier_worth (lots_in (rates_for f (short_of k)) (part from to ns) (part from to areas)) ≡ 0

-- the cuts of the sales from..to for an amount, all of them between the kept place and an end; which of the highest sales they leave, and what they are worth
pub record Fits (f : Prices) (short : List Bool) (asked : ℕ) (ns areas : List ℕ) (from to : ℕ) (cs₀ cs : List ℕ) (k : Kept) (end lost : ℕ) : Type 0 where
  pub kept : KeptFor f k ns areas from to
  pub filled : cs ≡ sets cs₀ from (cuts_of f (short_by short) asked (part from to ns) (part from to areas))
  pub worth : tier_worth (lots_in (tier_rates f k) (part from to cs) (part from to areas)) ≡ lost
  pub gone : (i : ℕ) → k.place ≤ i → i < end → amount_at_place (tier_rates f k) ns areas i < k.mwh + get_or cs i 0
  pub here : end < to → k.mwh ≤ amount_at_place (tier_rates f k) ns areas end

-- the places that the cuts filled in lie between
abbrev pub first_of : Choice → ℕ
first_of (Filled kept sweep) = kept.place
first_of (Partial first end) = first

abbrev pub end_of : Choice → ℕ
end_of (Filled kept sweep) = sweep.end
end_of (Partial first end) = end

-- they are all of the reduction where they are said to be
abbrev pub FitsIn : Prices → List Bool → ℕ → List ℕ → List ℕ → ℕ → ℕ → List ℕ → List ℕ → Choice → Type 0
FitsIn f short asked ns areas from to cs₀ cs (Filled kept sweep) = Fits f short asked ns areas from to cs₀ cs kept sweep.end sweep.lost
FitsIn f short asked ns areas from to cs₀ cs (Partial first end) = Unit {0}

-- cuts are filled in between the kept place and an end, all of the reduction where they fit
pub record Chosen (f : Prices) (short : List Bool) (asked : ℕ) (ns areas : List ℕ) (from to : ℕ) (cs₀ cs : List ℕ) (c : Choice) : Type 0 where
  pub room : length cs ≡ 256
  pub starts : from ≤ first_of c
  pub rises : first_of c ≤ end_of c
  pub ends : end_of c ≤ to
  pub before : (i : ℕ) → i < first_of c → get_or cs i 0 ≡ 0
  pub behind : (i : ℕ) → end_of c ≤ i → get_or cs i 0 ≡ 0
  pub fitting : FitsIn f short asked ns areas from to cs₀ cs c
