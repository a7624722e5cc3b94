-- A test of every element of a list, by the next one and those after it. Assumes nothing.
use Rattle.base.specs.Basics.{◌≡◌, ap, ◌∙◌, Bool, true, ◌&&◌, List, [], ◌∷◌}
use Rattle.base.specs.Lists.{all}

module _ {A : Type 0} (p : A → Bool) where
  -- by the test of the next one: no, or the answer of those after it
  pub all_next : {zs : List A} {z : A} {rest : List A} {b : Bool} → zs ≡ z ∷ rest → p z ≡ b → all p zs ≡ (b && all p rest)
  unfolding all
  all_next {zs} {z} {rest} e h = ap (all p) e ∙ ap (λ (b : Bool). b && all p rest) h

  -- none is left
  pub all_none : {zs : List A} → zs ≡ [] → all p zs ≡ true
  unfolding all
  all_none e = ap (all p) e
