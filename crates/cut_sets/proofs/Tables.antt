-- The loop that fills a table of the worths of sets. Assumes nothing.
use Rattle.base.specs.Basics.{◌≡◌, subst, ◌∙◌, List, ℕ, ◌+◌, ◌*◌, ◌^◌, ◌≤◌, ◌<◌, add-mul, one-mul, mul-le-mul, mul-le-mul_right, arith, length, get_or}
use Rattle.base.specs.Basics.{set, replicate, length-set, length-replicate, get_or-set_same, get_or-set_other}
use Rattle.base.proofs.Linear.{by_order}
use Rattle.cut_sets.specs.Found.{Table}

-- the first j places are filled
pub record Filling (worth : ℕ → ℕ) (step count : ℕ) (table : List ℕ) (j : ℕ) : Type 0 where
  pub inside : j ≤ count
  pub room : length table ≡ 256
  pub filled : Table worth step j table

module _ (worth : ℕ → ℕ) (step count : ℕ) where
  pub filling_first : Filling worth step count (replicate 256 0) 0
  filling_first = record { inside = omega arith; room = length-replicate {A = ℕ} 256 0; filled = record { at = λ i h. absurd (omega arith) } }

  pub filling_more : {table : List ℕ} {j : ℕ} (v : ℕ) → count ≤ 256 → Filling worth step count table j → j < count → v ≡ worth (j * step) → Filling worth step count (set table j v) (j + 1)
  filling_more {table} {j} v few p h e =
      record { inside = omega arith; room = length-set table j v ∙ p.room; filled = record { at = at_place } }
    where
      at_place : (i : ℕ) → i < j + 1 → get_or (set table j v) i 0 ≡ worth (i * step)
      at_place i l =
          by_order i j (λ k. get_or-set_other table j i v 0 (λ z. omega arith) ∙ p.filled.at i k)
          (λ k.
          let z : j ≡ i = omega arith in
          subst (λ (q : ℕ). get_or (set table j v) q 0 ≡ worth (q * step)) z (get_or-set_same table j v 0 (omega (arith, p.room)) ∙ e))

  pub filling_end : {table : List ℕ} {j : ℕ} → Filling worth step count table j → count ≤ j → Table worth step count table
  filling_end p h = record { at = λ i l. p.filled.at i (omega arith) }

-- the sets of a table are sets of n trades
pub set_inside : (n step count j : ℕ) → count * step < 2 ^ n + step → j < count → j * step < 2 ^ n
set_inside n step count j h l =
    let most : (j + 1) * step ≤ count * step = mul-le-mul_right step (omega arith) in
    omega (arith, add-mul j 1 step, one-mul step)
