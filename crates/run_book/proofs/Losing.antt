-- What sales have lost, put in the place of what is left of them, one by one. Assumes nothing.
use Rattle.base.specs.Basics.{◌≡◌, refl, ◌∙◌, List, ℕ, ◌+◌, ◌-◌, ◌≤◌, ◌<◌, arith, length, get_or, set}
use Rattle.base.specs.Basics.{length-set, get_or-set_other}
use Rattle.base.proofs.Stores.{set_front}
use Rattle.run_book.specs.Books.{LeftOf, LostOf}

-- ---- lost

-- the first i have what was lost, the rest what is left
pub record LostTo (ns ms cs : List ℕ) (i : ℕ) : Type 0 where
  pub room : length cs ≡ 256
  pub each : (k : ℕ) → k < i → get_or ms k 0 + get_or cs k 0 ≡ get_or ns k 0
  pub rest : (k : ℕ) → i ≤ k → get_or cs k 0 ≡ get_or ms k 0

module _ {ns ms : List ℕ} {count : ℕ} (q : LeftOf ns ms count) where
  pub lost_start : LostTo ns ms ms 0
  lost_start = record { room = q.room; each = λ k h. absurd (omega arith); rest = λ k h. refl }

  module _ {cs : List ℕ} {i : ℕ} (p : LostTo ns ms cs i) where
    -- what is left is no more than stood
    pub lost_fits : i < count → get_or cs i 0 ≤ get_or ns i 0
    lost_fits h = omega (arith, p.rest i (omega arith), q.most i h)

    pub lost_more : i < count → LostTo ns ms (set cs i (get_or ns i 0 - get_or cs i 0)) (i + 1)
    lost_more h =
        let v = get_or ns i 0 - get_or cs i 0 in
        record {
          room = length-set cs i v ∙ p.room;
          each = set_front (λ k x. get_or ms k 0 + x ≡ get_or ns k 0) cs i v 0 (omega (arith, p.room, q.few)) (omega (arith, p.rest i (omega arith), q.most i h)) p.each;
          rest = λ k l. get_or-set_other cs i k v 0 (λ z. omega arith) ∙ p.rest k (omega arith);
        }

    pub lost_end : count ≤ i → LostOf ns ms cs count
    lost_end h = record { room = p.room; each = λ k l. p.each k (omega arith) }
