-- Cuts that were filled in can be taken off, and positions moved by them. Assumes nothing.
use Rattle.base.specs.Basics.{◌≡◌, Bool, List, ℕ, ◌≤◌, arith, replicate, length-replicate, get_or-replicate}
use Rattle.cut_tiers.specs.Tiers.{NoCuts, Takeable, cuts_of, short_by}
use Rattle.cut_tiers.proofs.After.{cuts_of_same}
use Rattle.cut_worth.specs.Rates.{Sales}
use Rattle.rules.specs.Areas.{Prices}
use Rattle.run_positions.specs.Moving.{Movable, ShortIn}
use Rattle.laws_sales.proofs.Parts.{part-most}
use Rattle.laws_sales.specs.Parts.{part}
use Rattle.run_reduction.specs.Reductions.{Reducible, short_in}

module _ {place from to : ℕ} {ns areas bs ps : List ℕ} (s : Sales ns areas from to) (r : Reducible place from to areas bs ps) where
  -- positions can be moved by them
  pub filled_movable : {cs : List ℕ} → Takeable ns cs from to → Movable place from to areas bs cs ps
  filled_movable t =
      record {
        rising = r.rising;
        few = s.inside;
        areas_room = s.areas_long;
        buyers_room = r.buyers_room;
        cuts_room = t.long;
        room = r.room;
        place_in = r.place_in;
        area_in = s.area_most;
        buyer_in = r.buyer_in;
        most = λ k l m. omega (arith, t.within k l m, s.standing_most k l m);
        low = r.low;
        high = r.high;
      }

  -- the tiers are told by the positions
  pub filled_short : (f : Prices) (asked : ℕ) {short : List Bool} → ShortIn ps place short
      → cuts_of f (short_by short) asked (part from to ns) (part from to areas) ≡ cuts_of f (short_in ps place) asked (part from to ns) (part from to areas)
  filled_short f asked {short} w =
      cuts_of_same f (short_by short) (short_in ps place) asked (part from to ns) (part from to areas) (λ a l. w.each a l)
      (λ i. omega (arith, part-most areas from to 2 (λ k l m. omega (arith, s.area_most k l m)) i))

-- an array of zeros has no cut
pub no_cuts : (from to : ℕ) → from ≤ to → to ≤ 256 → NoCuts (replicate 256 0) from to
no_cuts from to h few = record { rising = h; long = length-replicate {A = ℕ} 256 0; none = λ i l m. get_or-replicate {A = ℕ} 256 i 0 0 (omega arith) }
