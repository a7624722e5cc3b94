-- The sales of a tier that stand highest, in a part of the sales: where they stand, and their cuts of one MWh each. Assumes nothing.
use Rattle.std.specs.Prelude.{◌≡◌, ◌+◌, ◌*◌, ◌≤◌, ◌<◌}
use Rattle.base.specs.Basics.{Bool, cond, not, List, ℕ, length, get_or}
use Rattle.cut_worth.specs.Rates.{Sales, lots_in, rated}
use Rattle.laws_sales.specs.Parts.{part}
use Rattle.rules.specs.Shares.{cuts_of_tier, tier_worth}

-- what stands of the sale at a place in a tier
abbrev pub amount_at_place : List ℕ → List ℕ → List ℕ → ℕ → ℕ
amount_at_place rates ns areas i = cond (rated rates (get_or areas i 0)) (get_or ns i 0) 0

-- an array of cuts in which there is none
pub record NoneCut (cs : List ℕ) : Type 0 where
  pub room : length cs ≡ 256
  pub none : (k : ℕ) → get_or cs k 0 ≡ 0

-- no sale from..to of the tier stands above an amount
pub record Highest (rates ns areas : List ℕ) (from to mwh : ℕ) : Type 0 where
  pub some : 0 < mwh
  pub few : mwh ≤ 100000
  pub most : (i : ℕ) → from ≤ i → i < to → amount_at_place rates ns areas i ≤ mwh

-- the first place from a start on where a sale of the tier stands at an amount, or the end
pub record NextPeak (rates ns areas : List ℕ) (mwh start to place : ℕ) : Type 0 where
  pub starts : start ≤ place
  pub ends : place ≤ to
  pub before : (i : ℕ) → start ≤ i → i < place → amount_at_place rates ns areas i < mwh
  pub here : place < to → mwh ≤ amount_at_place rates ns areas place

-- the first of the highest sales from..to of the tier, or the end: none stands above it, and all before it stand lower
pub record Peaked (rates ns areas : List ℕ) (from to place mwh : ℕ) : Type 0 where
  pub starts : from ≤ place
  pub ends : place ≤ to
  pub some : 0 < mwh
  pub few : mwh ≤ 100000
  pub most : (i : ℕ) → from ≤ i → i < to → amount_at_place rates ns areas i ≤ mwh
  pub before : (i : ℕ) → from ≤ i → i < place → amount_at_place rates ns areas i < mwh
  pub here : place < to → mwh ≤ amount_at_place rates ns areas place

-- the cuts of the tier's sales from..to, for an amount below the tier's worth of which no share is a whole MWh, and what they are worth
pub record Shared (rates ns areas : List ℕ) (from to asked mwh : ℕ) (cs : List ℕ) (lost : ℕ) : Type 0 where
  pub worth : tier_worth (lots_in rates (part from to cs) (part from to areas)) ≡ lost
  pub cuts : (v : ℕ) → v ≡ tier_worth (lots_in rates (part from to ns) (part from to areas)) → asked < v → mwh * asked < v → asked ≤ lost
      → part from to cs ≡ cuts_of_tier asked (lots_in rates (part from to ns) (part from to areas))

-- the highest sales from a place on are cut by one MWh each, up to the next of them, for an amount: cuts, and their worth
pub record PeakCuts (rates ns areas : List ℕ) (asked mwh place to : ℕ) (cs : List ℕ) (end lost : ℕ) : Type 0 where
  pub room : length cs ≡ 256
  pub starts : place ≤ end
  pub ends : end ≤ to
  pub before : (k : ℕ) → k < place → get_or cs k 0 ≡ 0
  pub behind : (k : ℕ) → end ≤ k → get_or cs k 0 ≡ 0
  pub gone : (k : ℕ) → place ≤ k → k < end → amount_at_place rates ns areas k < mwh + get_or cs k 0
  pub here : end < to → mwh ≤ amount_at_place rates ns areas end
  pub shared : (from : ℕ) → Sales ns areas from to → Peaked rates ns areas from to place mwh → Shared rates ns areas from to asked mwh cs lost

-- an area belongs to tier one where the position is negative, else to tier two
unfoldable pub tier_of : Bool → (ℕ → Bool) → ℕ → Bool
tier_of second short area = cond second (not (short area)) (short area)
