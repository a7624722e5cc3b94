-- The search by halves of what is left, among ids that rise and are padded to 64 numbers: if the id stands at all, it is one of those left. Assumes nothing.
use Rattle.base.specs.Basics.{◌≡◌, refl, sym, ap, ◌∙◌, Bool, true, false, cond, ◌&&◌, List, ℕ, ◌+◌, ◌-◌, ◌<◌, ◌≤◌, arith, T, eqb, ltb, eqb→eq, ltb→lt}
use Rattle.base.specs.Basics.{length, take, get_or, get_or-replicate, length-take-le, get_or-take, get_or-drop, eqb-false, lt-ltb, le-ltb, ltb-true, ltb-false}
use Rattle.base.proofs.Tests.{and_l, and_r}
use Rattle.book_parties.specs.Ids.{place_in, FoundIn, Padded}
use Rattle.book_parties.proofs.Rising.{place_in_at, place_in_none}

-- if the id stands among the first n, it is one of the `count` from `low` on
pub record Left (ids : List ℕ) (n id low count : ℕ) : Type 0 where
  pub some : 1 ≤ count
  pub end : low + count ≤ 64
  pub above : (p : ℕ) → p < n → get_or ids p 0 ≡ id → low ≤ p
  pub below : (p : ℕ) → p < n → get_or ids p 0 ≡ id → p < low + count

module _ (ids : List ℕ) (n id : ℕ) (padded : Padded ids n) where
  -- there are n ids
  ids_held : length (take n ids) ≡ n
  ids_held = length-take-le n ids (omega (arith, padded.full, padded.few))

  -- an id before another is below it
  ids_rise_lem : (i j : ℕ) → i < j → j < n → get_or ids i 0 < get_or ids j 0
  ids_rise_lem i j h k =
      omega (arith, get_or-take n ids i 0 (omega arith), get_or-take n ids j 0 k, padded.rising.rise i j h (omega (arith, ids_held)))

  -- a number past them is the highest
  past_ids : (k : ℕ) → n ≤ k → k < 64 → get_or ids k 0 ≡ 4294967295
  past_ids k h l =
      let e : n + (k - n) ≡ k = omega arith in
      omega (arith, rw (e, padded.rest, get_or-replicate {A = ℕ} (64 - n) (k - n) 4294967295 0 (omega arith)) at (get_or-drop n ids (k - n) 0))

  -- before the first step
  pub search_start : Left ids n id 0 64
  search_start =
      record { some = omega arith; end = omega arith; above = λ p h e. omega arith; below = λ p h e. omega (arith, padded.few) }

  -- a number before one that is below the id is not the id
  not_before : (p k : ℕ) → id ≤ 4294967295 → k < 64 → get_or ids k 0 < id → p < n → get_or ids p 0 ≡ id → k < p
  not_before p k fits l h t e = go (ltb k p) refl (ltb k n) refl (ltb p k) refl
    where
      go : (b : Bool) → ltb k p ≡ b → (c : Bool) → ltb k n ≡ c → (d : Bool) → ltb p k ≡ d → k < p
      go true b c f d g = ltb-true k p b
      go false b true f true g = absurd (omega (arith, ids_rise_lem p k (ltb-true p k g) (ltb-true k n f)))
      go false b true f false g =
          let q : p ≡ k = omega (arith, ltb-false k p b, ltb-false p k g) in
          absurd (omega (arith, ap (λ (i : ℕ). get_or ids i 0) q))
      go false b false f d g = absurd (omega (arith, past_ids k (ltb-false k n f) l))

  -- a number after one that is not below the id is not the id
  not_after : (p k : ℕ) → id ≤ get_or ids k 0 → p < n → get_or ids p 0 ≡ id → p ≤ k
  not_after p k h t e = go (ltb k p) refl
    where
      go : (b : Bool) → ltb k p ≡ b → p ≤ k
      go true b = absurd (omega (arith, ids_rise_lem k p (ltb-true k p b) t))
      go false b = ltb-false k p b

  -- a step, by the last number of the first half of those left
  pub search_turn : {low count : ℕ} (half k next : ℕ) → Left ids n id low count → half + half ≤ count → 1 ≤ half → k + 1 ≡ low + half → id ≤ 4294967295
      → next ≡ cond (ltb (get_or ids k 0) id) (low + half) low → Left ids n id next (count - half)
  search_turn {low} {count} half k next left two one at fits e = rw e (go (ltb (get_or ids k 0) id) refl)
    where
      go : (b : Bool) → ltb (get_or ids k 0) id ≡ b → Left ids n id (cond b (low + half) low) (count - half)
      go true t =
          record {
            some = omega arith;
            end = omega (arith, left.end);
            above = λ p h f. omega (arith, not_before p k fits (omega (arith, left.end)) (ltb-true (get_or ids k 0) id t) h f);
            below = λ p h f. omega (arith, left.below p h f);
          }
      go false t =
          record {
            some = omega arith;
            end = omega (arith, left.end);
            above = left.above;
            below = λ p h f. omega (arith, not_after p k (ltb-false (get_or ids k 0) id t) h f);
          }

  -- the id stands there
  pub stands_there : (low : ℕ) → low < n → get_or ids low 0 ≡ id → low ≡ place_in (take n ids) id
  stands_there low inside same =
      sym
      (place_in_at (take n ids) id low (omega (arith, ids_held)) (get_or-take n ids low 0 inside ∙ same)
      (λ j k f. omega (arith, ids_rise_lem j low k inside, get_or-take n ids j 0 (omega arith))))

  -- so it is found
  pub found_there : (low : ℕ) → low < n → get_or ids low 0 ≡ id → FoundIn (take n ids) n id low true
  found_there low inside same =
      record { stands = stands_there low inside same; told = sym (lt-ltb low n inside); within = omega (arith, inside) }

  -- where the search ended
  pub search_found : (low : ℕ) → (ltb low n && eqb (get_or ids low 0) id) ≡ true → FoundIn (take n ids) n id low true
  search_found low h =
      let test : T (ltb low n && eqb (get_or ids low 0) id) = rw h tt in
      found_there low
      (ltb→lt low n (and_l (ltb low n) (eqb (get_or ids low 0) id) test))
      (eqb→eq (get_or ids low 0) id (and_r (ltb low n) (eqb (get_or ids low 0) id) test))

  -- it does not: it stands nowhere
  pub search_none : {low count : ℕ} → Left ids n id low count → count ≤ 1 → (ltb low n && eqb (get_or ids low 0) id) ≡ false → FoundIn (take n ids) n id n false
  search_none {low} left over e =
      record {
        stands =
            omega (
              arith,
              ids_held,
              place_in_none (take n ids) id
                  (λ j k f. go j (omega (arith, ids_held)) (omega (arith, get_or-take n ids j 0 (omega (arith, ids_held)))) (ltb low n) refl e),
            );
        told = sym (le-ltb n n (omega arith));
        within = omega arith;
      }
    where
      go : (j : ℕ) → j < n → get_or ids j 0 ≡ id → (b : Bool) → ltb low n ≡ b → (b && eqb (get_or ids low 0) id) ≡ false → ⊥
      go j k f true t h =
          let q : low ≡ j = omega (arith, left.above j k f, left.below j k f) in
          eqb-false (get_or ids low 0) id h (ap (λ (i : ℕ). get_or ids i 0) q ∙ f)
      go j k f false t h = omega (arith, ltb-false low n t, left.above j k f, left.below j k f)
