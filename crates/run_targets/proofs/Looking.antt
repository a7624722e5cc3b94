-- A part of the sales, passed one by one: whether one of them stands above 0, and the buyers of those that lost something, asked anew. Assumes nothing.
use Rattle.base.specs.Basics.{◌≡◌, refl, sym, ap, ap₂, ◌∙◌, Bool, true, false, cond, ◌&&◌, ◌||◌, List, ℕ, ◌+◌, ◌≤◌, ◌<◌, min, arith, eqb, ltb, length}
use Rattle.base.specs.Basics.{get_or, set, length-set, get_or-set_other, eq-eqb, ne_eqb, lt-ltb, le-ltb}
use Rattle.base.proofs.Tests.{and-false, and-true, by_case}
use Rattle.base.specs.Lists.{any}
use Rattle.base.proofs.Stores.{here_or_apart, set_each}
use Rattle.run_state.specs.Asked.{LookedAgain, touched}
use Rattle.laws_sales.proofs.Parts.{part_first, part_none}
use Rattle.laws_sales.specs.Parts.{part}

-- ---- one that stands above 0

module _ (xs : List ℕ) (from to : ℕ) (room : to ≤ length xs) where
  -- what is left has the whole answer
  module _ {i : ℕ} (h : i < to) (p : any (λ n. ltb 0 n) (part i to xs) ≡ any (λ n. ltb 0 n) (part from to xs)) where
    next : any (λ n. ltb 0 n) (part i to xs) ≡ (ltb 0 (get_or xs i 0) || any (λ n. ltb 0 n) (part (i + 1) to xs))
    unfolding any
    next = ap (any (λ n. ltb 0 n)) (part_first xs i to 0 h room)

    pub left_found : 0 < get_or xs i 0 → true ≡ any (λ n. ltb 0 n) (part from to xs)
    left_found k = sym (sym p ∙ next ∙ ap (λ (x : Bool). x || any (λ n. ltb 0 n) (part (i + 1) to xs)) (lt-ltb 0 (get_or xs i 0) k))

    pub left_more : get_or xs i 0 ≤ 0 → any (λ n. ltb 0 n) (part (i + 1) to xs) ≡ any (λ n. ltb 0 n) (part from to xs)
    left_more k = sym (sym p ∙ next ∙ ap (λ (x : Bool). x || any (λ n. ltb 0 n) (part (i + 1) to xs)) (le-ltb 0 (get_or xs i 0) k))

  pub left_none : {i : ℕ} → to ≤ i → any (λ n. ltb 0 n) (part i to xs) ≡ any (λ n. ltb 0 n) (part from to xs) → false ≡ any (λ n. ltb 0 n) (part from to xs)
  unfolding any
  left_none {i} h p = sym (ap (any (λ n. ltb 0 n)) (part_none xs i to h)) ∙ p

-- ---- buyers asked anew

-- a user is asked at this sale, at one of the rest, or not
asked_step : (x r e : Bool) (n t u : ℕ) → u ≡ cond (x && e) n t → cond (r && e) n u ≡ cond ((x || r) && e) n t
asked_step true true true n t u f = refl
asked_step true false true n t u f = f
asked_step true true false n t u f = f
asked_step true false false n t u f = f
asked_step false r e n t u f = ap (cond (r && e) n) f

pub yes : {A : Type 0} {c : Bool} → c ≡ true → (x y : A) → cond c x y ≡ x
yes e x y = rw e

pub no : {A : Type 0} {c : Bool} → c ≡ false → (x y : A) → cond c x y ≡ y
no e x y = rw e

module _ (now : ℕ → ℕ) (es : List Bool) (from to : ℕ) (bs cs ts₀ : List ℕ) (least : ℕ) where
  -- sales up to i are passed: who is asked anew at the rest has its target then, and those before `low` have not been asked
  pub record LookedTo (ts : List ℕ) (low i : ℕ) : Type 0 where
    pub room : length ts ≡ 64
    pub rest : (j : ℕ) → j < 64 → cond (touched j (part i to bs) (part i to cs) && get_or es j false) (now j) (get_or ts j 0)
        ≡ cond (touched j (part from to bs) (part from to cs) && get_or es j false) (now j) (get_or ts₀ j 0)
    pub before : (j : ℕ) → j < low → get_or ts j 0 ≡ get_or ts₀ j 0
    pub most : low ≤ least

-- what the loop is about is shown by what is passed, and is not written at each law
module _ {now : ℕ → ℕ} {es : List Bool} {from to : ℕ} {bs cs ts₀ : List ℕ} {least : ℕ} where
  pub looked_start : length ts₀ ≡ 64 → LookedTo now es from to bs cs ts₀ least ts₀ least from
  looked_start e = record { room = e; rest = λ j h. refl; before = λ j h. refl; most = omega arith }

  module _ (b_room : to ≤ length bs) (c_room : to ≤ length cs) {ts : List ℕ} {low i : ℕ} (h : i < to) (p : LookedTo now es from to bs cs ts₀ least ts low i) where
    next_touched : (j : ℕ) → touched j (part i to bs) (part i to cs) ≡ ((eqb (get_or bs i 0) j && ltb 0 (get_or cs i 0)) || touched j (part (i + 1) to bs) (part (i + 1) to cs))
    unfolding touched
    next_touched j = ap₂ (touched j) (part_first bs i to 0 h (omega arith)) (part_first cs i to 0 h (omega arith))

    -- a sale that lost nothing
    pub looked_skip : get_or cs i 0 ≤ 0 → {us : List ℕ} {n : ℕ} → us ≡ ts → n ≡ low → LookedTo now es from to bs cs ts₀ least us n (i + 1)
    looked_skip k {us} {n} f g =
        rw (f, g)
        (record {
          room = p.room;
          rest = λ j l.
              let r = touched j (part (i + 1) to bs) (part (i + 1) to cs) in
              let e : touched j (part i to bs) (part i to cs) ≡ r
              = next_touched j ∙ ap (λ (x : Bool). (eqb (get_or bs i 0) j && x) || r) (le-ltb 0 (get_or cs i 0) k) ∙ ap (λ (x : Bool). x || r) (and-false (eqb (get_or bs i 0) j)) in
              ap (λ (x : Bool). cond (x && get_or es j false) (now j) (get_or ts j 0)) (sym e) ∙ p.rest j l;
          before = p.before;
          most = p.most;
        })

    -- one that lost something
    module _ (k : 0 < get_or cs i 0) (b : ℕ) (is : get_or bs i 0 ≡ b) (l : b < 64) {us : List ℕ} {n : ℕ} (told : us ≡ cond (get_or es b false) (set ts b (now b)) ts)
        (lower : n ≡ cond (get_or es b false) (min low b) low) where
      told_room : length us ≡ 64
      told_room = ap length told ∙ by_case (get_or es b false) (λ e. ap length (yes e (set ts b (now b)) ts) ∙ length-set ts b (now b)) (λ e. ap length (no e (set ts b (now b)) ts)) ∙ p.room

      told_at : (j : ℕ) → get_or us j 0 ≡ cond (eqb b j && get_or es j false) (now j) (get_or ts j 0)
      told_at j =
          ap (λ (xs : List ℕ). get_or xs j 0) told
          ∙ by_case (get_or es b false)
          (λ e. rw e
          (set_each (λ m x. x ≡ cond (eqb b m && get_or es m false) (now m) (get_or ts m 0)) ts b (now b) 0 (omega (arith, p.room)) (rw (eq-eqb b b refl, e))
          (λ m n. rw (ne_eqb b m (λ z. n (sym z)))) j))
          (λ e. rw e
          (here_or_apart (λ m. get_or ts m 0 ≡ cond (eqb b m && get_or es m false) (now m) (get_or ts m 0)) b j (rw (eq-eqb b b refl, e)) (λ n. rw (ne_eqb b j (λ z. n (sym z))))))

      told_before : (j : ℕ) → j < n → get_or us j 0 ≡ get_or ts₀ j 0
      told_before j m =
          by_case (get_or es b false)
          (λ e.
          let w : n ≡ min low b = lower ∙ yes e (min low b) low in
          ap (λ (xs : List ℕ). get_or xs j 0) (told ∙ yes e (set ts b (now b)) ts) ∙ get_or-set_other ts b j (now b) 0 (λ z. absurd (omega (arith, w, z))) ∙ p.before j (omega (arith, w)))
          (λ e.
          let w : n ≡ low = lower ∙ no e (min low b) low in
          ap (λ (xs : List ℕ). get_or xs j 0) (told ∙ no e (set ts b (now b)) ts) ∙ p.before j (omega (arith, w)))

      pub looked_more : LookedTo now es from to bs cs ts₀ least us n (i + 1)
      looked_more =
          record {
            room = told_room;
            rest = λ j m.
                let r = touched j (part (i + 1) to bs) (part (i + 1) to cs) in
                let e : touched j (part i to bs) (part i to cs) ≡ (eqb b j || r)
                = next_touched j ∙ ap₂ (λ (x : ℕ) (y : Bool). (eqb x j && y) || r) is (lt-ltb 0 (get_or cs i 0) k) ∙ ap (λ (x : Bool). x || r) (and-true (eqb b j)) in
                asked_step (eqb b j) r (get_or es j false) (now j) (get_or ts j 0) (get_or us j 0) (told_at j)
                ∙ ap (λ (x : Bool). cond (x && get_or es j false) (now j) (get_or ts j 0)) (sym e) ∙ p.rest j m;
            before = told_before;
            most = by_case (get_or es b false) (λ e. omega (arith, p.most, lower ∙ yes e (min low b) low)) (λ e. omega (arith, p.most, lower ∙ no e (min low b) low));
          }

  pub looked_end : {ts : List ℕ} {low i : ℕ} → to ≤ i → LookedTo now es from to bs cs ts₀ least ts low i → LookedAgain now es (part from to bs) (part from to cs) ts₀ ts low × (low ≤ least)
  unfolding touched
  looked_end {ts} {low} {i} h p = (
    record {
      room = p.room;
      each = λ j l.
          let none : touched j (part i to bs) (part i to cs) ≡ false = ap (λ (xs : List ℕ). touched j xs (part i to cs)) (part_none bs i to h) in
          ap (λ (x : Bool). cond (x && get_or es j false) (now j) (get_or ts j 0)) (sym none) ∙ p.rest j l;
      before = p.before;
    },
    p.most,
  )
