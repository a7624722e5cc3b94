-- The front of an array: what its first n elements stand for, and tests that all elements of a list pass. Assumes nothing.
use Rattle.base.specs.Basics.{Bool, List, [], ◌∷◌, map, ◌≡◌, refl, ap, ◌∙◌, ℕ, zero, suc, ◌≤◌, ◌<◌, not-suc-le-zero, le_of_suc-le-suc, T, length, take}
use Rattle.base.specs.Basics.{get_or, replicate, length-map, get_or-map, get_or-take, length-take-le}
use Rattle.base.proofs.Tests.{and_l, and_r}
use Rattle.base.specs.Lists.{all}

module _ {R M : Type 0} (face : R → M) (n : ℕ) (rs : List R) where
  -- the front has n elements
  pub front_length : n ≤ length rs → length (map face (take n rs)) ≡ n
  front_length h = length-map (take n rs) face ∙ length-take-le n rs h

  -- the element at a place
  pub front_at : (i : ℕ) (d : R) → i < n → get_or (map face (take n rs)) i (face d) ≡ face (get_or rs i d)
  front_at i d h = get_or-map face (take n rs) i d ∙ ap face (get_or-take n rs i d h)

-- it is the front of what the array stands for
pub front_take : {R M : Type 0} (face : R → M) (n : ℕ) (rs : List R) → map face (take n rs) ≡ take n (map face rs)
front_take face zero rs = refl
front_take face (suc n) [] = refl
front_take {M = M} face (suc n) (r ∷ rs) = ap (λ (ms : List M). face r ∷ ms) (front_take face n rs)

module _ {A : Type 0} where
  -- what stands at a place does not depend on what is read past the end
  pub get_or_inside : (xs : List A) (i : ℕ) (d e : A) → i < length xs → get_or xs i d ≡ get_or xs i e
  get_or_inside [] i d e h = absurd (not-suc-le-zero h)
  get_or_inside (x ∷ xs) zero d e h = refl
  get_or_inside (x ∷ xs) (suc i) d e h = get_or_inside xs i d e (le_of_suc-le-suc h)

  -- copies of what is read past the end have it everywhere
  pub none_past : (n i : ℕ) (d : A) → get_or (replicate n d) i d ≡ d
  none_past zero i d = refl
  none_past (suc n) zero d = refl
  none_past (suc n) (suc i) d = none_past n i d

  -- a test that all elements pass holds at each place
  pub all_at : (p : A → Bool) (xs : List A) → T (all p xs) → (i : ℕ) (d : A) → i < length xs → T (p (get_or xs i d))
  unfolding all
  all_at p [] h i d k = absurd (not-suc-le-zero k)
  all_at p (x ∷ xs) h zero d k = and_l (p x) (all p xs) h
  all_at p (x ∷ xs) h (suc i) d k = all_at p xs (and_r (p x) (all p xs) h) i d (le_of_suc-le-suc k)
