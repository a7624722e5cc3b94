-- Both tiers of a seller's sales one after the other: tier two finds no cut of its own sales, and the two tiers' cuts in one array are those of the rules.
-- Assumes nothing.
use Rattle.base.specs.Basics.{◌≡◌, refl, sym, ap, ap₂, ◌∙◌, Bool, true, false, not, cond, List, [], ◌∷◌, map, ℕ, suc, ◌+◌, ◌-◌, ◌≤◌, ◌<◌, arith, ltb}
use Rattle.base.specs.Basics.{length, get_or, get_or-eq_default, sets, length-sets}
use Rattle.laws.proofs.Cuts.{length-together}
use Rattle.cut_shares.proofs.Lifted.{together_none}
use Rattle.cut_shares.proofs.Ones.{counts_out}
use Rattle.cut_shares.specs.Cuts.{Untouched, added}
use Rattle.cut_tiers.proofs.Weights.{rate_for, worth_for, cuts_for}
use Rattle.cut_tiers.specs.Tiers.{rates_for, cuts_of, NoCuts}
use Rattle.laws_sales.proofs.Parts.{part_length, part_at, part_here, part-most, part_stored, stored_over}
use Rattle.cut_worth.proofs.Rates.{areas_inside, amounts_length, rates_length, amount_at_lem}
use Rattle.cut_worth.specs.Rates.{rate_in, amounts_in, rates_in, lots_in, Sales}
use Rattle.base.proofs.Linear.{by_order}
use Rattle.rules.specs.Areas.{Prices, tariff}
use Rattle.rules.specs.Reduction.{together}
use Rattle.rules.specs.Shares.{tier_worth, cuts_of_tier}
use Rattle.laws_sales.specs.Parts.{part}
use Rattle.laws_sales.specs.Sales.{standing_in}
use Rattle.cut_shares.proofs.Cuts.{asked_nothing, cuts_length, cut_le_standing}
use Rattle.units.specs.Prices.{InRange}
use Rattle.laws_sales.proofs.Ranges.{cond-le}
use Rattle.laws_sales.specs.Lots.{lots_of}

-- cuts added to none
pub together_first : (zs ds : List ℕ) → length ds ≡ length zs → ((k : ℕ) → get_or zs k 0 ≡ 0) → together zs ds ≡ ds
unfolding together
together_first [] [] e h = refl
together_first [] (d ∷ ds) e h = absurd (omega arith)
together_first (z ∷ zs) [] e h = refl
together_first (z ∷ zs) (d ∷ ds) e h =
    ap₂ (λ (n : ℕ) (ns : List ℕ). n ∷ ns) (let f : z + d ≡ d = omega (arith, h 0) in f) (together_first zs ds (omega arith) (λ k. h (suc k)))

-- a sale of one tier is not of the other
other_tier : (short : Bool) (t n one two : ℕ) → one ≡ cond short t 0 → two ≡ cond (not short) t 0 → 0 < two → cond (ltb 0 one) n 0 ≡ 0
other_tier true t n one two e f h = absurd (omega arith)
other_tier false t n one two e f h = counts_out one n e

-- three areas
three_areas : {ss areas : List ℕ} (from to : ℕ) → Sales ss areas from to → (i : ℕ) → get_or (part from to areas) i 0 < 3
three_areas {ss} {areas} from to s i = omega (arith, part-most areas from to 2 (λ j h k. omega (arith, s.area_most j h k)) i)

-- no cut yet, whatever the rates
pub none_untouched : {cuts : List ℕ} {from to : ℕ} (rates areas : List ℕ) → NoCuts cuts from to → Untouched rates areas cuts from to
none_untouched rates areas n =
    record { rising = n.rising; long = n.long; most = λ i h k. omega (arith, n.none i h k); none_yet = λ i h k p. n.none i h k }

module _ (f : Prices) (range : InRange f) (short : ℕ → Bool) (asked : ℕ) {ss areas cuts : List ℕ} {from to : ℕ} (s : Sales ss areas from to) (n : NoCuts cuts from to) where
  -- the cuts of tier one, and of tier two for an amount
  abbrev pub ones : List ℕ
  ones = cuts_of_tier asked (lots_in (rates_for f short) (part from to ss) (part from to areas))

  abbrev pub twos : ℕ → List ℕ
  twos left = cuts_of_tier left (lots_in (rates_for f (λ area. not (short area))) (part from to ss) (part from to areas))

  -- as many as there are places
  lots_same : (rates : List ℕ) → length (rates_in rates (part from to areas)) ≡ length (amounts_in rates (part from to ss) (part from to areas))
  lots_same rates = rates_length areas rates from to (areas_inside s) ∙ sym (amounts_length ss areas rates from to s)

  tier_many : (amount : ℕ) (rates : List ℕ) → length (cuts_of_tier amount (lots_in rates (part from to ss) (part from to areas))) ≡ to - from
  unfolding lots_in
  tier_many amount rates =
      cuts_length amount (amounts_in rates (part from to ss) (part from to areas)) (rates_in rates (part from to areas)) (lots_same rates) ∙ amounts_length ss areas rates from to s

  ones-length : length ones ≡ to - from
  ones-length = tier_many asked (rates_for f short)

  -- a cut of tier one is at most what stands in it
  one_le : (i : ℕ) → from ≤ i → i < to → get_or ones (i - from) 0 ≤ cond (ltb 0 (rate_in (rates_for f short) (get_or areas i 0))) (get_or ss i 0) 0
  unfolding lots_in
  one_le i h k =
      omega (
        arith,
        cut_le_standing asked (amounts_in (rates_for f short) (part from to ss) (part from to areas)) (rates_in (rates_for f short) (part from to areas)) (lots_same (rates_for f short)) (i - from),
        amount_at_lem ss areas (rates_for f short) from to s i h k,
      )

  -- the definition, by the tiers' rates
  cuts_of_lem : (v : ℕ) → v ≡ tier_worth (lots_in (rates_for f short) (part from to ss) (part from to areas)) → together ones (twos (asked - v)) ≡ cuts_of f short asked (part from to ss) (part from to areas)
  unfolding cuts_of
  cuts_of_lem v w =
      let three = three_areas from to s in
      ap₂ together (cuts_for f short range (part from to ss) (part from to areas) three asked)
      (cuts_for f (λ area. not (short area)) range (part from to ss) (part from to areas) three (asked - v)
      ∙ ap (λ (m : ℕ). cuts_of_tier (asked - m) (lots_of (standing_in (λ area. not (short area)) (part from to ss) (part from to areas)) (map (tariff f) (part from to areas))))
      (w ∙ worth_for f short range (part from to ss) (part from to areas) three))

  module _ {rates first : List ℕ} (one : rates ≡ rates_for f short) (e : first ≡ added from to cuts (cuts_of_tier asked (lots_in rates (part from to ss) (part from to areas)))) where
    -- after tier one, its cuts are there
    first_stored : first ≡ sets cuts from ones
    unfolding added
    first_stored =
        e ∙ ap (λ (rs : List ℕ). added from to cuts (cuts_of_tier asked (lots_in rs (part from to ss) (part from to areas)))) one
        ∙ ap (sets cuts from) (together_first (part from to cuts) ones (ones-length ∙ sym (part_length cuts from to (omega (arith, n.long, s.inside))))
        (λ k.
        by_order k (to - from)
        (λ l. part_at cuts from to k 0 (omega arith) ∙ n.none (from + k) (omega arith) (omega arith))
        (λ l. get_or-eq_default (part from to cuts) 0 {n = k} (omega (arith, part_length cuts from to (omega (arith, n.long, s.inside)))))))

    first_part : part from to first ≡ ones
    first_part = ap (part from to) first_stored ∙ part_stored cuts from to ones ones-length n.rising (omega (arith, n.long, s.inside))

    first_at : (i : ℕ) → from ≤ i → i < to → get_or first i 0 ≡ get_or ones (i - from) 0
    first_at i h k = sym (part_here first from to i 0 h k) ∙ ap (λ (ns : List ℕ). get_or ns (i - from) 0) first_part

    -- and none of tier two's
    pub first_untouched : {other : List ℕ} → other ≡ rates_for f (λ area. not (short area)) → Untouched other areas first from to
    first_untouched {other} two = record {
      rising = n.rising;
      long = ap length first_stored ∙ length-sets cuts from ones ∙ n.long;
      most = λ i h k.
          omega (
            arith,
            first_at i h k,
            one_le i h k,
            cond-le (ltb 0 (rate_in (rates_for f short) (get_or areas i 0))) (get_or ss i 0),
            s.standing_most i h k,
          );
      none_yet = λ i h k p.
          let area = get_or areas i 0 in
          omega (
            arith,
            first_at i h k,
            one_le i h k,
            other_tier (short area) (tariff f area) (get_or ss i 0) (rate_in (rates_for f short) area) (rate_in other area)
                (rate_for f short area (s.area_most i h k)) (ap (λ (rs : List ℕ). rate_in rs area) two ∙ rate_for f (λ a. not (short a)) area (s.area_most i h k)) p,
          );
    }

    module _ (v : ℕ) (w : v ≡ tier_worth (lots_in rates (part from to ss) (part from to areas))) where
      -- the two tiers' cuts, by their rates
      cuts_both : together ones (twos (asked - v)) ≡ cuts_of f short asked (part from to ss) (part from to areas)
      cuts_both = cuts_of_lem v (w ∙ ap (λ (rs : List ℕ). tier_worth (lots_in rs (part from to ss) (part from to areas))) one)

      -- tier one's worth is all that is asked
      pub one_tier : asked ≤ v → first ≡ sets cuts from (cuts_of f short asked (part from to ss) (part from to areas))
      unfolding lots_in
      one_tier h =
          let other = rates_for f (λ area. not (short area)) in
          let none : map (λ c. 0) ones ≡ twos (asked - v)
          = asked_nothing (amounts_in other (part from to ss) (part from to areas)) (rates_in other (part from to areas)) (lots_same other) (asked - v) (omega arith) ones
          (ones-length ∙ sym (amounts_length ss areas other from to s)) in
          first_stored ∙ ap (sets cuts from) (sym (together_none ones) ∙ ap (together ones) none ∙ cuts_both)

      -- tier two takes the rest
      pub both_tiers : {other last : List ℕ} {left : ℕ} → other ≡ rates_for f (λ area. not (short area)) → left ≡ asked - v
          → last ≡ added from to first (cuts_of_tier left (lots_in other (part from to ss) (part from to areas))) → last ≡ sets cuts from (cuts_of f short asked (part from to ss) (part from to areas))
      unfolding added
      both_tiers two rest g =
          let sums : length (together ones (twos (asked - v))) ≡ length ones
          = length-together ones (twos (asked - v)) (tier_many (asked - v) (rates_for f (λ area. not (short area))) ∙ sym ones-length) in
          g ∙ ap₂ (λ (rs : List ℕ) (m : ℕ). added from to first (cuts_of_tier m (lots_in rs (part from to ss) (part from to areas)))) two rest
          ∙ ap₂ (λ (zs cs : List ℕ). sets zs from (together cs (twos (asked - v)))) first_stored first_part
          ∙ stored_over cuts ones (together ones (twos (asked - v))) from sums (omega (arith, ones-length, n.rising, n.long, s.inside))
          ∙ ap (sets cuts from) cuts_both
