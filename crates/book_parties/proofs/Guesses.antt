-- Guesses: each is a place below n, before any is filled in and after one more is. Assumes nothing.
use Rattle.base.specs.Basics.{◌≡◌, sym, ap, ◌∙◌, Bool, true, List, ℕ, ◌<◌, ◌≤◌, arith, length, get_or, set, replicate, length-replicate}
use Rattle.base.specs.Basics.{length-set, get_or-replicate, ltb-true}
use Rattle.base.proofs.Stores.{set_each}
use Rattle.book_parties.specs.Ids.{FoundIn, Guesses}

module _ {gs : List ℕ} {n : ℕ} where
  -- all are 0
  pub guesses_none : 1 ≤ n → gs ≡ replicate 1024 0 → Guesses gs n
  guesses_none some e =
      record {
        full = ap length e ∙ length-replicate {A = ℕ} 1024 0;
        below = λ k h. omega (arith, ap (λ (xs : List ℕ). get_or xs k 0) e, get_or-replicate {A = ℕ} 1024 k 0 0 h);
      }

  -- one more is filled in
  pub guesses_more : (k v : ℕ) → Guesses gs n → k < 1024 → v < n → Guesses (set gs k v) n
  guesses_more k v g h l =
      record {
        full = length-set gs k v ∙ g.full;
        below = set_each (λ (j w : ℕ). j < 1024 → w < n) gs k v 0 (omega (arith, g.full)) (λ i. l) (λ j m i. g.below j i);
      }

-- an id that is known has a place below n
pub found_below : {ids : List ℕ} {n id place : ℕ} {known : Bool} → FoundIn ids n id place known → known ≡ true → place < n
found_below {n = n} {place = place} f h = ltb-true place n (sym f.told ∙ h)
