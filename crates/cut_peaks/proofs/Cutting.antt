-- The highest sales from a place on are cut one by one: which are cut, and the place of the next. Assumes nothing.
use Rattle.base.specs.Basics.{◌≡◌, sym, subst, ◌∙◌, List, ℕ, ◌+◌, ◌≤◌, ◌<◌, max, arith, length, get_or, set, length-set, get_or-set_other, get_or-set_same}
use Rattle.base.proofs.Linear.{by_order}
use Rattle.std.specs.Prelude.{Option, None, Some, MatchOption}
use Rattle.std.specs.Option.{unwrap_or}
use Rattle.cut_worth.specs.Rates.{Sales, rated}
use Rattle.laws_sales.proofs.Ranges.{cond-le}
use Rattle.cut_peaks.specs.Peaks.{Highest, NextPeak, NoneCut, PeakCuts, Peaked, Shared, amount_at_place}

-- ---- places passed one by one

module _ {rates ns areas : List ℕ} where
  -- none stands above
  pub highest_start : (from : ℕ) → Highest rates ns areas from from 1
  highest_start from = record { some = omega arith; few = omega arith; most = λ i h l. absurd (omega arith) }

  pub highest_more : {from i mwh next : ℕ} → Highest rates ns areas from i mwh → from ≤ i → get_or ns i 0 ≤ 100000 → {amount : ℕ} → amount ≡ amount_at_place rates ns areas i → next ≡ max mwh amount
      → Highest rates ns areas from (i + 1) next
  highest_more {from} {i} {mwh} {next} p h few {amount} e m =
      record {
        some = omega (arith, p.some);
        few = omega (arith, p.few, cond-le (rated rates (get_or areas i 0)) (get_or ns i 0));
        most = λ k l o.
            by_order k i (λ q. omega (arith, p.most k l q))
            (λ q. let z : i ≡ k = omega arith in subst (λ (j : ℕ). amount_at_place rates ns areas j ≤ next) z (omega arith));
      }

  pub highest_end : {from to i mwh : ℕ} → to ≤ i → Highest rates ns areas from i mwh → Highest rates ns areas from to mwh
  highest_end h p = record { some = p.some; few = p.few; most = λ k l m. p.most k l (omega arith) }

  -- the next that stands at it, or the end
  pub next_or_end : {mwh start to : ℕ} (r : Option ℕ) → MatchOption r (NextPeak rates ns areas mwh start to to) (λ i. NextPeak rates ns areas mwh start to i × (i < to)) → {i : ℕ}
      → i ≡ unwrap_or r to → NextPeak rates ns areas mwh start to i
  next_or_end {mwh} {start} {to} None n e = subst (λ (i : ℕ). NextPeak rates ns areas mwh start to i) (sym e) n
  next_or_end {mwh} {start} {to} (Some k) n e = subst (λ (i : ℕ). NextPeak rates ns areas mwh start to i) (sym e) n.0

-- ---- their cuts

-- those from a place up to i are cut
pub record Cutting (rates ns areas : List ℕ) (mwh place to : ℕ) (cs : List ℕ) (i : ℕ) : Type 0 where
  pub room : length cs ≡ 256
  pub starts : place ≤ i
  pub ends : i ≤ to
  pub before : (k : ℕ) → k < place → get_or cs k 0 ≡ 0
  pub behind : (k : ℕ) → i ≤ k → get_or cs k 0 ≡ 0
  pub gone : (k : ℕ) → place ≤ k → k < i → amount_at_place rates ns areas k < mwh + get_or cs k 0
  pub here : i < to → mwh ≤ amount_at_place rates ns areas i

module _ {rates ns areas : List ℕ} {mwh place to : ℕ} where
  -- none yet
  pub cutting_start : {cs : List ℕ} → place ≤ to → NoneCut cs → (place < to → mwh ≤ amount_at_place rates ns areas place) → Cutting rates ns areas mwh place to cs place
  cutting_start h none high =
      record {
        room = none.room;
        starts = omega arith;
        ends = h;
        before = λ k l. none.none k;
        behind = λ k l. none.none k;
        gone = λ k l m. absurd (omega arith);
        here = high;
      }

  -- one more
  pub cutting_more : {cs : List ℕ} {i next : ℕ} → to ≤ 256 → i < to → Highest rates ns areas place to mwh → NextPeak rates ns areas mwh (i + 1) to next → Cutting rates ns areas mwh place to cs i
      → Cutting rates ns areas mwh place to (set cs i (get_or cs i 0 + 1)) next
  cutting_more {cs} {i} {next} few l high n c =
      let apart : (k : ℕ) → (k ≡ i → ⊥) → get_or (set cs i (get_or cs i 0 + 1)) k 0 ≡ get_or cs k 0
      = λ k z. get_or-set_other cs i k (get_or cs i 0 + 1) 0 z in
      record {
        room = length-set cs i (get_or cs i 0 + 1) ∙ c.room;
        starts = omega (arith, c.starts, n.starts);
        ends = n.ends;
        before = λ k h. apart k (λ z. absurd (omega (arith, c.starts))) ∙ c.before k h;
        behind = λ k h. apart k (λ z. absurd (omega (arith, n.starts))) ∙ c.behind k (omega (arith, n.starts));
        gone = λ k h m.
            by_order k i (λ o. omega (arith, apart k (λ z. absurd (omega arith)), c.gone k h o))
            (λ o.
            by_order k (i + 1)
            (λ q.
            let e : k ≡ i = omega arith in
            rw e (omega (arith, get_or-set_same cs i (get_or cs i 0 + 1) 0 (omega (arith, c.room)), high.most i c.starts l)))
            (λ q. omega (arith, n.before k q m)));
        here = n.here;
      }

  -- after the last
  pub cutting_end : {asked lost : ℕ} {cs : List ℕ} {i : ℕ} → Cutting rates ns areas mwh place to cs i
      → ((from : ℕ) → Sales ns areas from to → Peaked rates ns areas from to place mwh → Shared rates ns areas from to asked mwh cs lost) → PeakCuts rates ns areas asked mwh place to cs i lost
  cutting_end c s =
      record { room = c.room; starts = c.starts; ends = c.ends; before = c.before; behind = c.behind; gone = c.gone; here = c.here; shared = s }
