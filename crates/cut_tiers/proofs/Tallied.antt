-- The loop over a seller's sales that takes the cuts off and runs the tally: its start, a turn and its end. Assumes nothing.
use Rattle.base.specs.Basics.{◌≡◌, sym, ap, ◌∙◌, List, map, ℕ, ◌+◌, ◌*◌, ◌-◌, ◌≤◌, ◌<◌, add-one, arith, length, drop, get_or, set, length-map}
use Rattle.base.specs.Basics.{drop_of_length-le, get_or-map, drop-cons, sets}
use Rattle.cut_tiers.specs.Tiers.{Takeable}
use Rattle.laws_sales.proofs.Parts.{part_length, part_here}
use Rattle.cut_worth.proofs.Rates.{areas_many, sales_many}
use Rattle.base.proofs.Storing.{Storing, storing_start, storing_more, storing_end}
use Rattle.cut_worth.specs.Rates.{Sales}
use Rattle.cut_worth.specs.Tallies.{as_tally}
use Rattle.cut_worth.specs.declared.Tally.{Tally}
use Rattle.rules.specs.Areas.{Prices}
use Rattle.rules.specs.Book as model
use Rattle.rules.specs.Reduction as reduction
use Rattle.rules.specs.Reduction.{nothing, tallied, tally_all}
use Rattle.laws_sales.proofs.Cuts.{tally-zero}
use Rattle.laws_sales.proofs.Numbers.{less_at, less-length}
use Rattle.laws_sales.specs.Parts.{part}
use Rattle.laws_sales.specs.Sales.{less}

-- no cut changes no tally
pub tally_same : (f : Prices) (t : model.Trade) (y : reduction.Tally) {c : ℕ} → c ≡ 0 → y ≡ tallied f c t y
tally_same f t y e = sym (ap (λ (n : ℕ). tallied f n t y) e ∙ tally-zero f t y)

-- the area of a sale
abbrev area_of : model.Trade → ℕ
area_of s = s.terms.area

-- what is read past the last sale
none : model.Trade
none = record { terms = record { seller = 0; buyer = 0; area = 0; kind = 0; day = 0; notified = 0 }; standing = 0 }

-- the cuts are taken off up to a place, and what is left of them gives the whole tally, for any sales in these areas
pub record TakenOff (f : Prices) (standing areas cuts : List ℕ) (from to : ℕ) (now : List ℕ) (y : Tally) (i : ℕ) : Type 0 where
  pub starts : from ≤ i
  pub ends : i ≤ to
  pub off : Storing (less (part from to cuts) (part from to standing)) from standing now i
  pub left : (ss : List model.Trade) → map area_of ss ≡ part from to areas
      → tally_all f (drop (i - from) (part from to cuts)) (drop (i - from) ss) (as_tally y) ≡ tally_all f (part from to cuts) ss nothing
  pub mwh_most : y.mwh.0 ≤ 100000 * (i - from)
  pub worth_most : y.worth.0 ≤ 10000000000 * (i - from)

module _ (f : Prices) {standing areas cuts : List ℕ} {from to : ℕ} (s : Sales standing areas from to) (t : Takeable standing cuts from to) where
  cuts_many : length (part from to cuts) ≡ to - from
  cuts_many = part_length cuts from to (omega (arith, s.inside, t.long))

  -- before the first sale
  pub taken_start : {y : Tally} → as_tally y ≡ nothing → y.mwh.0 ≡ 0 → y.worth.0 ≡ 0 → TakenOff f standing areas cuts from to standing y from
  taken_start {y} e m w =
      let z : from - from ≡ 0 = omega arith in
      record {
        starts = omega arith;
        ends = t.rising;
        off = storing_start (less (part from to cuts) (part from to standing)) from standing;
        left = λ ss h. rw z (ap (tally_all f (part from to cuts) ss) e);
        mwh_most = omega arith;
        worth_most = omega arith;
      }

  module _ {now : List ℕ} {y : Tally} {i : ℕ} (p : TakenOff f standing areas cuts from to now y i) where
    -- what stands at a place is what stood, and its cut fits
    pub taken_fits : i < to → get_or cuts i 0 ≤ get_or now i 0
    taken_fits h = omega (arith, p.off.after i 0 (omega arith), t.within i p.starts h)

    pub taken_cut : i < to → get_or cuts i 0 ≤ 100000
    taken_cut h = omega (arith, t.within i p.starts h, s.standing_most i p.starts h)

    further : (next : Tally) → i < to → ((x : model.Trade) → x.terms.area ≡ get_or areas i 0 → as_tally next ≡ tallied f (get_or cuts i 0) x (as_tally y))
        → (ss : List model.Trade) → map area_of ss ≡ part from to areas
        → tally_all f (drop (i + 1 - from) (part from to cuts)) (drop (i + 1 - from) ss) (as_tally next) ≡ tally_all f (part from to cuts) ss nothing
    unfolding tally_all none
    further next h g ss k =
        let e : i + 1 - from ≡ i - from + 1 = omega (arith, p.starts) in
        let l : i - from < length ss = omega (arith, length-map ss area_of, ap length k, areas_many s, p.starts) in
        let area : area_of (get_or ss (i - from) none) ≡ get_or areas i 0
        = sym (get_or-map area_of ss (i - from) none) ∙ ap (λ (ns : List ℕ). get_or ns (i - from) 0) k ∙ part_here areas from to i 0 p.starts h in
        let here = g (get_or ss (i - from) none) area in
        let step : tally_all f (drop (i - from) (part from to cuts)) (drop (i - from) ss) (as_tally y)
        ≡ tally_all f (drop (i + 1 - from) (part from to cuts)) (drop (i + 1 - from) ss) (tallied f (get_or cuts i 0) (get_or ss (i - from) none) (as_tally y))
        = rw (e, add-one (i - from), drop-cons (part from to cuts) (i - from) 0 (omega (arith, cuts_many, p.starts)), drop-cons ss (i - from) none l, part_here cuts from to i 0 p.starts h) in
        ap (tally_all f (drop (i + 1 - from) (part from to cuts)) (drop (i + 1 - from) ss)) here ∙ sym step ∙ p.left ss k

    -- one sale more
    pub taken_more : {now' : List ℕ} (next : Tally) → i < to → now' ≡ set now i (get_or now i 0 - get_or cuts i 0)
        → ((x : model.Trade) → x.terms.area ≡ get_or areas i 0 → as_tally next ≡ tallied f (get_or cuts i 0) x (as_tally y))
        → next.mwh.0 ≤ y.mwh.0 + 100000 → next.worth.0 ≤ y.worth.0 + 10000000000
        → TakenOff f standing areas cuts from to now' next (i + 1)
    taken_more next h e g m w = record {
      starts = omega (arith, p.starts);
      ends = omega arith;
      off =
          rw e
          (storing_more p.off (get_or now i 0 - get_or cuts i 0) 0 p.starts (omega (arith, less-length (part from to cuts) (part from to standing), sales_many s))
          (omega (
            arith,
            less_at (part from to cuts) (part from to standing) (i - from),
            part_here cuts from to i 0 p.starts h,
            part_here standing from to i 0 p.starts h,
            p.off.after i 0 (omega arith),
          )));
      left = λ ss k. further next h g ss k;
      mwh_most = omega (arith, p.mwh_most, p.starts);
      worth_most = omega (arith, p.worth_most, p.starts);
    }

    module _ (e : i ≡ to) where
      -- after the last
      pub taken_standing : now ≡ sets standing from (less (part from to cuts) (part from to standing))
      taken_standing = storing_end p.off (omega (arith, less-length (part from to cuts) (part from to standing), sales_many s, t.rising))

      pub taken_tally : (ss : List model.Trade) → map area_of ss ≡ part from to areas → as_tally y ≡ tally_all f (part from to cuts) ss nothing
      unfolding tally_all
      taken_tally ss k =
          let end : tally_all f (drop (i - from) (part from to cuts)) (drop (i - from) ss) (as_tally y) ≡ as_tally y
          = rw (drop_of_length-le (part from to cuts) {i = i - from} (omega (arith, cuts_many))) in
          sym end ∙ p.left ss k
