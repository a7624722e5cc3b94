-- A seller's sales, passed one by one: positions moved by the cuts of those passed. Assumes nothing.
use Rattle.base.specs.Basics.{◌≡◌, refl, sym, ap, ap₂, ◌∙◌, List, ◌∷◌, ℕ, ◌+◌, ◌*◌, ◌-◌, ◌≤◌, ◌<◌, ◌^◌, arith, length, get_or, set, set-get_or, set_out}
use Rattle.base.proofs.Linear.{by_order}
use Rattle.run_positions.specs.Moving.{Movable}
use Rattle.run_state.proofs.Moves.{one_length}
use Rattle.run_state.specs.Asked.{moved_all, moved_one}
use Rattle.base.proofs.Stores.{set_each}
use Rattle.laws_sales.proofs.Parts.{part_first, part_none}
use Rattle.laws_sales.specs.Parts.{part}

-- ---- one move

-- no number differs by more than the one that is stored
stored_near : (ps : List ℕ) (k v c j : ℕ) → v ≤ get_or ps k 0 + c → get_or ps k 0 ≤ v + c → (get_or (set ps k v) j 0 ≤ get_or ps j 0 + c) × (get_or ps j 0 ≤ get_or (set ps k v) j 0 + c)
stored_near ps k v c j h l =
    by_order k (length ps)
    (λ m. set_each (λ i x. (x ≤ get_or ps i 0 + c) × (get_or ps i 0 ≤ x + c)) ps k v 0 m (h, l) (λ i n. (omega arith, omega arith)) j)
    (λ m. let s = ap (λ (xs : List ℕ). get_or xs j 0) (set_out ps k v m) in (omega (arith, s), omega (arith, s)))

-- a cut of nothing moves nobody
pub one_none : (place buyer area : ℕ) (ps : List ℕ) {c : ℕ} → c ≡ 0 → ps ≡ moved_one place buyer area c ps
unfolding moved_one
one_none place buyer area ps {c} z =
    let k = 3 * place + area in
    let j = 3 * buyer + area in
    let up : get_or ps k 0 ≡ get_or ps k 0 + c = omega arith in
    let first : ps ≡ set ps k (get_or ps k 0 + c) = sym (set-get_or ps k 0) ∙ ap (set ps k) up in
    let down : get_or ps j 0 ≡ get_or ps j 0 - c = omega arith in
    sym (set-get_or ps j 0) ∙ ap (set ps j) down ∙ ap (λ (qs : List ℕ). set qs j (get_or qs j 0 - c)) first

-- ---- sale by sale

-- sales up to i are passed: the rest moves the positions of now as all move those at the start, and no position is far from where it was
pub record MovedTo (place from to : ℕ) (areas bs cs ps₀ ps : List ℕ) (i : ℕ) : Type 0 where
  pub above : from ≤ i
  pub room : length ps ≡ 192
  pub rest : moved_all place (part i to bs) (part i to areas) (part i to cs) ps ≡ moved_all place (part from to bs) (part from to areas) (part from to cs) ps₀
  pub high : (k : ℕ) → get_or ps k 0 ≤ get_or ps₀ k 0 + 200000 * (i - from)
  pub low : (k : ℕ) → get_or ps₀ k 0 ≤ get_or ps k 0 + 200000 * (i - from)

module _ {place from to : ℕ} {areas bs cs ps₀ : List ℕ} (m : Movable place from to areas bs cs ps₀) where
  pub moved_start : MovedTo place from to areas bs cs ps₀ ps₀ from
  moved_start = record { above = omega arith; room = m.room; rest = refl; high = λ k. omega arith; low = λ k. omega arith }

  module _ {ps : List ℕ} {i : ℕ} (h : i < to) (p : MovedTo place from to areas bs cs ps₀ ps i) where
    abbrev cut : ℕ
    cut = get_or cs i 0

    abbrev area : ℕ
    area = get_or areas i 0

    abbrev buyer : ℕ
    buyer = get_or bs i 0

    -- the positions can be moved
    pub move_high : get_or ps (3 * place + get_or areas i 0) 0 + get_or cs i 0 < 2 ^ 32
    move_high = omega (arith, m.few, p.above, p.high (3 * place + area), m.high i p.above h, m.most i p.above h)

    pub move_low : get_or cs i 0 ≤ get_or ps (3 * get_or bs i 0 + get_or areas i 0) 0
    move_low = omega (arith, m.few, p.above, p.low (3 * buyer + area), m.low i p.above h, m.most i p.above h)

    next_moved : moved_all place (part i to bs) (part i to areas) (part i to cs) ps ≡ moved_all place (part (i + 1) to bs) (part (i + 1) to areas) (part (i + 1) to cs) (moved_one place buyer area cut ps)
    unfolding moved_all
    next_moved =
        ap₂ (λ (xs ys : List ℕ). moved_all place xs ys (part i to cs) ps) (part_first bs i to 0 h (omega (arith, m.few, m.buyers_room))) (part_first areas i to 0 h (omega (arith, m.few, m.areas_room)))
        ∙ ap (λ (xs : List ℕ). moved_all place (buyer ∷ part (i + 1) to bs) (area ∷ part (i + 1) to areas) xs ps) (part_first cs i to 0 h (omega (arith, m.few, m.cuts_room)))

    -- one more
    pub moved_more : {qs : List ℕ} → qs ≡ moved_one place (get_or bs i 0) (get_or areas i 0) (get_or cs i 0) ps → MovedTo place from to areas bs cs ps₀ qs (i + 1)
    unfolding moved_one
    moved_more {qs} e =
        let k = 3 * place + area in
        let j = 3 * buyer + area in
        let up = set ps k (get_or ps k 0 + cut) in
        let most = m.most i p.above h in
        let near : (n : ℕ) → (get_or qs n 0 ≤ get_or ps n 0 + 200000) × (get_or ps n 0 ≤ get_or qs n 0 + 200000) = λ n.
        let same = ap (λ (xs : List ℕ). get_or xs n 0) e in
        let one = stored_near ps k (get_or ps k 0 + cut) 100000 n (omega arith) (omega arith) in
        let two = stored_near up j (get_or up j 0 - cut) 100000 n (omega arith) (omega arith) in
        (omega (arith, same, one, two), omega (arith, same, one, two)) in
        record {
          above = omega (arith, p.above);
          room = ap length e ∙ one_length ps place buyer area cut ∙ p.room;
          rest = ap (moved_all place (part (i + 1) to bs) (part (i + 1) to areas) (part (i + 1) to cs)) e ∙ sym next_moved ∙ p.rest;
          high = λ n. omega (arith, (near n).0, p.high n, p.above);
          low = λ n. omega (arith, (near n).1, p.low n, p.above);
        }

  pub moved_end : {ps : List ℕ} {i : ℕ} → to ≤ i → MovedTo place from to areas bs cs ps₀ ps i → ps ≡ moved_all place (part from to bs) (part from to areas) (part from to cs) ps₀
  unfolding moved_all
  moved_end {ps} {i} h p = sym (ap (λ (xs : List ℕ). moved_all place xs (part i to areas) (part i to cs) ps) (part_none bs i to h)) ∙ p.rest
