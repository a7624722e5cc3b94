-- The cuts of a tier of a part of the sales, added to an array in which the tier has none yet; the cut of one sale, and the shares between two turns. Assumes nothing.
use Rattle.std.specs.Prelude.{◌≡◌, ◌⊎◌, ◌∷◌, ◌+◌, ◌*◌, ◌-◌, ◌/◌, ◌%◌, ◌≤◌, ◌<◌}
use Rattle.base.specs.Basics.{cond, List, [], map, ℕ, ltb, length, get_or, set, sets}
use Rattle.cut_worth.specs.Rates.{rate_in, rates_in, lots_in}
use Rattle.rules.specs.Reduction.{together}
use Rattle.rules.specs.Shares.{Share, share_of}
use Rattle.laws_sales.specs.Parts.{part}
use Rattle.cut_shares.specs.Turns.{shares_of, Sharing, Earliest}

-- an array of cuts in which no sale of the tier, of a part of the sales, has a cut yet
pub record Untouched (rates areas cuts : List ℕ) (from to : ℕ) : Type 0 where
  pub rising : from ≤ to
  pub long : length cuts ≡ 256
  pub most : (i : ℕ) → from ≤ i → i < to → get_or cuts i 0 ≤ 100000
  pub none_yet : (i : ℕ) → from ≤ i → i < to → 0 < rate_in rates (get_or areas i 0) → get_or cuts i 0 ≡ 0

-- the cuts with those of a tier added to a part of them; all others are as they were
unfoldable pub added : ℕ → ℕ → List ℕ → List ℕ → List ℕ
added from to cuts ds = sets cuts from (together (part from to cuts) ds)

-- the larger of two remainders, the earlier of equals, with its place
pub record Larger (place rest other otherRest r rRest : ℕ) : Type 0 where
  pub either : ((rest < otherRest) × (r ≡ other) × (rRest ≡ otherRest)) ⊎ ((otherRest ≤ rest) × (r ≡ place) × (rRest ≡ rest))

-- the whole part of the share of a sale, and the remainder; both are 0 outside the tier
abbrev pub whole_part : ℕ → ℕ → ℕ → ℕ → ℕ
whole_part rate standing asked worth = cond (ltb 0 rate) standing 0 * asked / worth

abbrev pub remainder_of : ℕ → ℕ → ℕ → ℕ → ℕ
remainder_of rate standing asked worth = cond (ltb 0 rate) standing 0 * asked % worth

-- the sale at a place is cut by the whole part of its share: cuts and remainders before and after, and before and after too the loss, and the place and the
-- amount of the largest remainder
pub record SaleCut (rate standing asked worth place : ℕ) (cuts rests cuts' rests' : List ℕ) (lost lost' best best' most most' : ℕ) : Type 0 where
  pub cut : cuts' ≡ set cuts place (get_or cuts place 0 + whole_part rate standing asked worth)
  pub left : rests' ≡ set rests place (remainder_of rate standing asked worth)
  pub within : get_or cuts place 0 + whole_part rate standing asked worth ≤ 100000
  pub lost_worth : lost' ≡ lost + (get_or cuts place 0 + whole_part rate standing asked worth) * rate
  pub larger : Larger best most place (remainder_of rate standing asked worth) best' most'

-- the shares, each with a cut that was there before
unfoldable pub lifted : List ℕ → List Share → List Share
lifted [] ss = []
lifted (b ∷ bs) [] = []
lifted (b ∷ bs) (s ∷ ss) = record { cut = b + s.cut; remainder = s.remainder; tariff = s.tariff } ∷ lifted bs ss

-- the shares of a part of the sales, from their cuts so far and their remainders
abbrev pub shares_in : ℕ → ℕ → List ℕ → List ℕ → List ℕ → List ℕ → List Share
shares_in from to rates areas cuts rests = shares_of (part from to cuts) (part from to rests) (rates_in rates (part from to areas))

-- between two turns of a part of the sales: their shares and the loss are in order, and a place in the part is that of the largest remainder
pub record Turnable (rates areas cuts rests : List ℕ) (lost from to place : ℕ) : Type 0 where
  pub inside : to ≤ 256
  pub cuts_long : length cuts ≡ 256
  pub rests_long : length rests ≡ 256
  pub areas_long : length areas ≡ 256
  pub area_most : (i : ℕ) → from ≤ i → i < to → get_or areas i 0 < 3
  pub sharing : Sharing (part from to cuts) (part from to rests) (rates_in rates (part from to areas)) lost
  pub starts : from ≤ place
  pub ends : place < to
  pub earliest : Earliest (part from to rests) (place - from)

-- the whole parts are cut: cuts before and after, remainders, the loss, and the place of the largest remainder
pub record WholeParts (standing areas rates : List ℕ) (asked worth from to : ℕ) (cuts cuts' rests' : List ℕ) (lost place : ℕ) : Type 0 where
  pub turnable : Turnable rates areas cuts' rests' lost from to place
  pub shares : shares_in from to rates areas cuts' rests' ≡ lifted (part from to cuts) (map (share_of asked worth) (lots_in rates (part from to standing) (part from to areas)))
  pub others : cuts' ≡ sets cuts from (part from to cuts')
