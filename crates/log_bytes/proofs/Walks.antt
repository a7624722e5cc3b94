-- Two lists of bytes compared; and a walk over bytes: the answer so far, with that of the places left, is the whole answer. Assumes nothing.
use Rattle.base.specs.Basics.{◌≡◌, refl, sym, ap, ◌∙◌, Bool, true, ◌&&◌, List, [], ◌∷◌, ℕ, ◌+◌, ◌≤◌, ◌<◌, add-one, eqb, length, drop, get_or}
use Rattle.base.specs.Basics.{drop_of_length-le, drop-cons}
use Rattle.base.proofs.Tests.{and_assoc, and-true}
use Rattle.base.specs.Lists.{all}
use Rattle.log_format.specs.Fits.{same_bytes, zeros}
use lib.Pointwise.{pointwise}

-- ---- the answer so far and that of the rest

-- the answer so far, with that of what is left, is the whole one
pub record Answering (so_far rest whole : Bool) : Type 0 where
  pub together : (so_far && rest) ≡ whole

pub answering_start : {whole : Bool} → Answering true whole whole
answering_start = record { together = refl }

-- one place more
pub answering_next : {so_far left whole : Bool} (here rest : Bool) → Answering so_far left whole → left ≡ (here && rest) → Answering (so_far && here) rest whole
answering_next {so_far} here rest p e = record { together = and_assoc so_far here rest ∙ ap (λ (b : Bool). so_far && b) (sym e) ∙ p.together }

-- none is left
pub answering_end : {so_far left whole : Bool} → Answering so_far left whole → left ≡ true → so_far ≡ whole
answering_end {so_far} p e = sym (and-true so_far) ∙ ap (λ (b : Bool). so_far && b) (sym e) ∙ p.together

-- ---- two lists that are compared

pub same_pointwise : (xs ys : List ℕ) → pointwise eqb xs ys ≡ same_bytes xs ys
unfolding same_bytes
same_pointwise [] [] = refl
same_pointwise [] (y ∷ ys) = refl
same_pointwise (x ∷ xs) [] = refl
same_pointwise (x ∷ xs) (y ∷ ys) = ap (λ (b : Bool). eqb x y && b) (same_pointwise xs ys)

-- ---- the places left of a list that is to be 0

pub zeros_next : (xs : List ℕ) (i : ℕ) → i < length xs → zeros (drop i xs) ≡ (eqb (get_or xs i 0) 0 && zeros (drop (i + 1) xs))
unfolding zeros all
zeros_next xs i h = rw (add-one, drop-cons xs i 0 h)

pub zeros_end : (xs : List ℕ) (i : ℕ) → length xs ≤ i → zeros (drop i xs) ≡ true
unfolding zeros all
zeros_end xs i h = rw (drop_of_length-le xs {i = i} h)
