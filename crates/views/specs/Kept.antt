-- The place of an element of a list that passes a test. Assumes nothing.
use Rattle.std.specs.Prelude.{◌∷◌}
use Rattle.base.specs.Basics.{Bool, cond, List, [], ℕ, zero, suc}

module _ {A : Type 0} where
  -- "by ordinal from 0": the place of an element that passes; the number of elements where there is none
  unfoldable pub place_kept : (A → Bool) → List A → ℕ → ℕ
  place_kept p [] ordinal = 0
  place_kept p (x ∷ xs) zero = cond (p x) 0 (suc (place_kept p xs 0))
  place_kept p (x ∷ xs) (suc ordinal) = suc (place_kept p xs (cond (p x) ordinal (suc ordinal)))
