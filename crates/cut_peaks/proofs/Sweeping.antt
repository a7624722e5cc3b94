-- One MWh of each of the highest sales, one after the other, as turns of a tier's shares: no share has a whole part, and the remainders stand in the order of the sales. Assumes nothing.
use Rattle.base.specs.Basics.{◌≡◌, refl, sym, ap, ap₂, ◌∙◌, inl, false, ◌||◌, List, [], ◌∷◌, map, ℕ, suc, ◌+◌, ◌*◌, ◌-◌, ◌/◌, ◌%◌, ◌≤◌, ◌<◌}
use Rattle.base.specs.Basics.{div-eq_of_lt, mod-eq_of_lt, mul-le-mul, mul-lt-mul_of_pos_right, zero-mul, arith, eqb, length, get_or, set, length-map}
use Rattle.base.specs.Basics.{get_or-eq_default, get_or-map, get_or-set_other, get_or-set_same, ne_eqb}
use Rattle.base.proofs.Linear.{by_order}
use Rattle.base.proofs.Stores.{here_or_apart}
use Rattle.cut_peaks.proofs.Worths.{loss_worth, none_loss}
use Rattle.cut_peaks.specs.Peaks.{NextPeak, NoneCut, Peaked, Shared, amount_at_place}
use Rattle.cut_shares.proofs.Cuts.{cuts_part}
use Rattle.cut_shares.proofs.Turns.{Turning, largest_at_place, shares_of_lots, turn_sharing, turn_stored, turning_more, turning_none, turning_over}
use Rattle.cut_shares.specs.Turns.{Earliest, Sharing, shares_of}
use Rattle.cut_worth.proofs.Rates.{amount_at_lem, amounts_length, areas_inside, areas_many, rate_here, rates_length, rates_most}
use Rattle.cut_worth.specs.Rates.{Rates, Sales, amounts_in, lots_in, rate_in, rates_in}
use Rattle.laws_sales.proofs.Parts.{part_here, part_length, part-most, part-set}
use Rattle.laws_sales.specs.Lots.{lots_of}
use Rattle.laws_sales.specs.Parts.{part}
use Rattle.rules.specs.Shares.{largest_remainder, one_more, share_of}

-- remainders of shares without a whole part
unfoldable pub products : ℕ → List ℕ → List ℕ
products asked ns = map (λ n. n * asked) ns

-- the turns so far have cut the highest sales before a place; those from it on have their remainders
pub record Sweeping (rates ns areas : List ℕ) (from to asked mwh : ℕ) (cs₀ cs : List ℕ) (lost i : ℕ) : Type 0 where
  pub rests : List ℕ
  pub turning : Turning (part from to cs₀) (products asked (amounts_in rates (part from to ns) (part from to areas))) (rates_in rates (part from to areas)) asked (part from to cs) rests lost
  pub past : (k : ℕ) → from + k < i → get_or rests k 0 < mwh * asked
  pub ahead : (k : ℕ) → i ≤ from + k → get_or rests k 0 ≡ get_or (amounts_in rates (part from to ns) (part from to areas)) k 0 * asked

products_at : (asked : ℕ) (ns : List ℕ) (k : ℕ) → get_or (products asked ns) k 0 ≡ get_or ns k 0 * asked
unfolding products
products_at asked ns k = ap (λ (d : ℕ). get_or (map (λ n. n * asked) ns) k d) (sym (zero-mul asked)) ∙ get_or-map (λ (n : ℕ). n * asked) ns k 0

-- no whole part, and the product as remainder
whole_parts : (asked v : ℕ) (ns cs : List ℕ) → length cs ≡ length ns → ((k : ℕ) → get_or cs k 0 ≡ 0) → ((k : ℕ) → get_or ns k 0 * asked < v) → cs ≡ map (λ n. n * asked / v) ns
whole_parts asked v [] [] e z h = refl
whole_parts asked v [] (c ∷ cs) e z h = absurd (omega arith)
whole_parts asked v (n ∷ ns) [] e z h = absurd (omega arith)
whole_parts asked v (n ∷ ns) (c ∷ cs) e z h =
    ap₂ (λ (x : ℕ) (xs : List ℕ). x ∷ xs) (z 0 ∙ sym (div-eq_of_lt (h 0))) (whole_parts asked v ns cs (omega arith) (λ k. z (suc k)) (λ k. h (suc k)))

remainders : (asked v : ℕ) (ns : List ℕ) → ((k : ℕ) → get_or ns k 0 * asked < v) → products asked ns ≡ map (λ n. n * asked % v) ns
unfolding products
remainders asked v [] h = refl
remainders asked v (n ∷ ns) h = ap₂ (λ (x : ℕ) (xs : List ℕ). x ∷ xs) (sym (mod-eq_of_lt (h 0))) (remainders asked v ns (λ k. h (suc k)))

module _ {rates ns areas : List ℕ} {from to asked mwh place : ℕ} (s : Sales ns areas from to) (range : Rates rates) (p : Peaked rates ns areas from to place mwh) (some : 0 < asked) where
  abbrev amounts : List ℕ
  amounts = amounts_in rates (part from to ns) (part from to areas)

  abbrev ts : List ℕ
  ts = rates_in rates (part from to areas)

  many : length amounts ≡ to - from
  many = amounts_length ns areas rates from to s

  rates_many : length ts ≡ to - from
  rates_many = rates_length areas rates from to (areas_inside s)

  amount_here : (k : ℕ) → from + k < to → get_or amounts k 0 ≡ amount_at_place rates ns areas (from + k)
  amount_here k h =
      let e : from + k - from ≡ k = omega arith in
      ap (λ (j : ℕ). get_or amounts j 0) (sym e) ∙ amount_at_lem ns areas rates from to s (from + k) (omega arith) h

  -- products keep the order
  product_less : {n : ℕ} → n < mwh → n * asked < mwh * asked
  product_less h = mul-lt-mul_of_pos_right h some

  product_le : {n : ℕ} → n ≤ mwh → n * asked ≤ mwh * asked
  product_le {n} h = mul-le-mul {n₁ = n} {m₁ = asked} {n₂ = mwh} {m₂ = asked} h (omega arith)

  product_some : 0 < mwh * asked
  product_some = omega (arith, product_less p.some, zero-mul asked)

  module _ {cs₀ : List ℕ} (none : NoneCut cs₀) where
    none_there : (k : ℕ) → get_or (part from to cs₀) k 0 ≡ 0
    none_there k = omega (arith, part-most cs₀ from to 0 (λ i h l. omega (arith, none.none i)) k)

    part_many : (cs : List ℕ) → length cs ≡ 256 → length (part from to cs) ≡ to - from
    part_many cs e = part_length cs from to (omega (arith, s.inside))

    -- before the first turn
    pub sweep_start : Sweeping rates ns areas from to asked mwh cs₀ cs₀ 0 place
    unfolding products
    sweep_start =
        let sharing : Sharing (part from to cs₀) (products asked amounts) ts 0
        = record {
          cuts_length = part_many cs₀ none.room ∙ sym rates_many;
          rests_length = length-map amounts (λ n. n * asked) ∙ many ∙ sym rates_many;
          lost_worth = sym (none_loss (part from to cs₀) (products asked amounts) ts none_there);
          room = λ i. omega (arith, none_there i);
          tariff_most = rates_most range (part from to areas);
        } in
        record {
          rests = products asked amounts;
          turning = turning_none (part from to cs₀) (products asked amounts) ts asked 0 sharing;
          past = λ k h. omega (arith, products_at asked amounts k, product_less (let l : get_or amounts k 0 < mwh = omega (arith, amount_here k (omega (arith, p.ends)), p.before (from + k) (omega arith) h) in l));
          ahead = λ k h. products_at asked amounts k;
        }

    module _ {cs : List ℕ} {lost i : ℕ} (w : Sweeping rates ns areas from to asked mwh cs₀ cs lost i) where
      rests_many : length w.rests ≡ to - from
      rests_many = w.turning.sharing.rests_length ∙ rates_many

      -- one turn more: the sale at the place is the earliest of the largest remainders
      module _ (below : lost < asked) (start : from ≤ i) (end : i < to) (high : mwh ≤ amount_at_place rates ns areas i) where
        there : from + (i - from) ≡ i
        there = omega arith

        here : get_or w.rests (i - from) 0 ≡ mwh * asked
        here =
            let e : get_or amounts (i - from) 0 ≡ mwh = omega (arith, amount_at_lem ns areas rates from to s i start end, high, p.most i start end) in
            w.ahead (i - from) (omega arith) ∙ ap (λ (n : ℕ). n * asked) e

        earliest : Earliest w.rests (i - from)
        earliest = record {
          inside = omega (arith, rests_many);
          most = λ j h.
              by_order (from + j) i (λ l. omega (arith, w.past j l, here))
              (λ l.
              omega (
                arith,
                w.ahead j l,
                here,
                product_le (let m : get_or amounts j 0 ≤ mwh = omega (arith, amount_here j (omega (arith, rests_many)), p.most (from + j) (omega arith) (omega (arith, rests_many))) in m),
              ));
          first = λ j h. omega (arith, w.past j (omega arith), here);
        }

        module _ {rate next : ℕ} (paid : rate ≡ rate_in rates (get_or areas i 0)) (n : NextPeak rates ns areas mwh (i + 1) to next) where
          cut : part from to (set cs i (get_or cs i 0 + 1)) ≡ set (part from to cs) (i - from) (get_or (part from to cs) (i - from) 0 + 1)
          cut =
              part-set cs from to i (get_or cs i 0 + 1) start end
              ∙ ap (λ (m : ℕ). set (part from to cs) (i - from) (m + 1)) (sym (part_here cs from to i 0 start end))

          some_left : 0 < get_or w.rests (i - from) 0
          some_left = omega (arith, here, product_some)

          sharing_next : Sharing (part from to (set cs i (get_or cs i 0 + 1))) (set w.rests (i - from) 0) ts (lost + rate)
          sharing_next =
              rw cut
              (turn_sharing (part from to cs) w.rests ts lost w.turning.sharing (i - from) earliest some_left (lost + rate)
              (omega (arith, paid, rate_here areas rates from to (areas_inside s) i start end)))

          turned : shares_of (part from to (set cs i (get_or cs i 0 + 1))) (set w.rests (i - from) 0) ts ≡ one_more (largest_remainder (shares_of (part from to cs) w.rests ts)) (shares_of (part from to cs) w.rests ts)
          turned = rw cut (turn_stored (part from to cs) w.rests ts lost w.turning.sharing (i - from) earliest)

          pub sweep_more : Sweeping rates ns areas from to asked mwh cs₀ (set cs i (get_or cs i 0 + 1)) (lost + rate) next
          sweep_more =
              record {
                rests = set w.rests (i - from) 0;
                turning =
                    turning_more w.turning below (omega (arith, largest_at_place (part from to cs) w.rests ts lost w.turning.sharing (i - from) earliest, some_left)) sharing_next turned;
                past = λ k h.
                    here_or_apart (λ (j : ℕ). get_or (set w.rests (i - from) 0) j 0 < mwh * asked) (i - from) k
                    (omega (arith, get_or-set_same w.rests (i - from) 0 0 (omega (arith, rests_many)), product_some))
                    (λ apart.
                    by_order (from + k) i
                    (λ l. omega (arith, get_or-set_other w.rests (i - from) k 0 0 apart, w.past k l))
                    (λ l.
                    by_order (from + k) (i + 1)
                    (λ m. absurd (apart (omega arith)))
                    (λ m.
                    omega (
                      arith,
                      get_or-set_other w.rests (i - from) k 0 0 apart,
                      w.ahead k l,
                      product_less (let x : get_or amounts k 0 < mwh = omega (arith, amount_here k (omega (arith, n.ends)), n.before (from + k) m h) in x),
                    ))));
                ahead = λ k h. get_or-set_other w.rests (i - from) k 0 0 (λ z. absurd (omega (arith, n.starts))) ∙ w.ahead k (omega (arith, n.starts));
              }

      -- after the last
      pub sweep_end : length cs ≡ 256 → Shared rates ns areas from to asked mwh cs lost
      unfolding lots_in
      sweep_end room =
          record {
            worth =
                sym (w.turning.sharing.lost_worth
                ∙ loss_worth rates (part from to cs) w.rests (part from to areas) (part_many cs room ∙ sym (areas_many s)) (rests_many ∙ sym (areas_many s)));
            cuts = λ v e l m r.
                let small : (k : ℕ) → get_or amounts k 0 * asked < v
                = λ k. omega (arith, product_le (amount_le k)) in
                let shares : shares_of (part from to cs₀) (products asked amounts) ts ≡ map (share_of asked v) (lots_of amounts ts)
                = ap₂ (λ (xs ys : List ℕ). shares_of xs ys ts) (whole_parts asked v amounts (part from to cs₀) (part_many cs₀ none.room ∙ sym many) none_there small) (remainders asked v amounts small)
                ∙ shares_of_lots asked v amounts ts in
                cuts_part amounts ts (rates_many ∙ sym many) asked v e (asked_some v (omega arith)) l (shares_of (part from to cs₀) (products asked amounts) ts) shares (turning_over w.turning (inl r));
          }
        where
          amount_le : (k : ℕ) → get_or amounts k 0 ≤ mwh
          amount_le k = by_order k (to - from) (λ h. omega (arith, amount_here k (omega arith), p.most (from + k) (omega arith) (omega arith))) (λ h. omega (arith, get_or-eq_default amounts 0 {n = k} (omega (arith, many))))

          asked_some : (v : ℕ) → 0 < v → (eqb asked 0 || eqb v 0) ≡ false
          asked_some v h = rw (ne_eqb asked 0 (λ z. absurd (omega arith)), ne_eqb v 0 (λ z. absurd (omega arith)))
