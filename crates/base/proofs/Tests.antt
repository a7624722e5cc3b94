-- Laws of tests: conjunction, disjunction, equality of numbers, a value by a test, every and some element of a list. Assumes nothing.
use Rattle.base.specs.Basics.{◌≡◌, refl, sym, ap, ap₂, Bool, true, false, not, cond, ◌&&◌, ◌||◌, List, [], ◌∷◌, ◌++◌, map, ℕ, zero, suc, ◌+◌, ◌<◌}
use Rattle.base.specs.Basics.{arith, T, eqb, eqb→eq, eqb_refl, ℤ, ◌+ℤ◌}
use Rattle.base.specs.{Sums.sum, Sums.sum_ℤ, Lists.all}
pub use mathlib.Core.Bool.{and_assoc, and-false, and-true, or_assoc, or-true}

pub and_l : (a b : Bool) → T (a && b) → T a
and_l true b h = tt
and_l false b h = h

pub and_r : (a b : Bool) → T (a && b) → T b
and_r true b h = h
and_r false b h = absurd h

pub and_i : (a b : Bool) → T a → T b → T (a && b)
and_i true b h k = k
and_i false b h k = h

pub or_l : (a b : Bool) → T a → T (a || b)
or_l true b h = tt
or_l false b h = absurd h

pub or_r : (a b : Bool) → T b → T (a || b)
or_r true b h = tt
or_r false b h = h

-- the second where the first fails
pub or_second : (a b : Bool) → T (not a) → T (a || b) → T b
or_second true b h k = absurd h
or_second false b h k = k

-- another second that follows from it
pub or_by : (a b c : Bool) → (T b → T c) → T (a || b) → T (a || c)
or_by true b c f h = tt
or_by false b c f h = f h

pub or_none : (a b : Bool) → T (not (a || b)) → T (not a) × T (not b)
or_none true b h = absurd h
or_none false b h = (tt, h)

-- a value by a test: what holds of each of the two in its case holds of it
pub by_test {ℓ} : {A : Type 0} (P : A → Type ℓ) (c : Bool) {x y : A} → (T c → P x) → (T (not c) → P y) → P (cond c x y)
by_test P true f g = f tt
by_test P false f g = g tt

-- what holds of 0, 1 and 2 holds of an area
pub of_three : (P : ℕ → Type 0) → P 0 → P 1 → P 2 → (a : ℕ) → a < 3 → P a
of_three P x y z zero h = x
of_three P x y z (suc zero) h = y
of_three P x y z (suc (suc zero)) h = z
of_three P x y z (suc (suc (suc a))) h = absurd (omega arith)

-- tests that say the same are equal
pub same_test : (a b : Bool) → (T a → T b) → (T b → T a) → a ≡ b
same_test true true f g = refl
same_test true false f g = absurd (f tt)
same_test false true f g = absurd (g tt)
same_test false false f g = refl

pub eqb_of : (m n : ℕ) → m ≡ n → T (eqb m n)
eqb_of m n e = rw e (eqb_refl n)

pub eqb_comm : (m n : ℕ) → eqb m n ≡ eqb n m
eqb_comm m n = same_test (eqb m n) (eqb n m) (λ t. eqb_of n m (sym (eqb→eq m n t))) (λ t. eqb_of m n (sym (eqb→eq n m t)))

-- a test fails or holds
pub by_case : {P : Type 0} (c : Bool) → (c ≡ true → P) → (c ≡ false → P) → P
by_case true f g = f refl
by_case false f g = g refl

pub holds : {c : Bool} → c ≡ true → T c
holds e = rw e tt

pub fails : {c : Bool} → c ≡ false → T (not c)
fails e = rw e tt

-- ---- every and some element

module _ {A : Type 0} where
  pub all_by : (p q : A → Bool) → ((x : A) → T (p x) → T (q x)) → (xs : List A) → T (all p xs) → T (all q xs)
  unfolding all
  all_by p q h [] k = tt
  all_by p q h (x ∷ xs) k =
      and_i (q x) (all q xs) (h x (and_l (p x) (all p xs) k)) (all_by p q h xs (and_r (p x) (all p xs) k))

  pub all_yes : (p : A → Bool) → ((x : A) → T (p x)) → (xs : List A) → T (all p xs)
  unfolding all
  all_yes p h [] = tt
  all_yes p h (x ∷ xs) = and_i (p x) (all p xs) (h x) (all_yes p h xs)

  pub all_append : (p : A → Bool) (xs ys : List A) → T (all p xs) → T (all p ys) → T (all p (xs ++ ys))
  unfolding all
  all_append p [] ys h k = k
  all_append p (x ∷ xs) ys h k =
      and_i (p x) (all p (xs ++ ys)) (and_l (p x) (all p xs) h) (all_append p xs ys (and_r (p x) (all p xs) h) k)

  -- sums of what is equal at every element that passes
  pub sum_by : (p : A → Bool) {f g : A → ℕ} → ((x : A) → T (p x) → f x ≡ g x) → (xs : List A) → T (all p xs) → sum f xs ≡ sum g xs
  unfolding sum all
  sum_by p h [] k = refl
  sum_by p h (x ∷ xs) k =
      ap₂ (λ a b. a + b) (h x (and_l (p x) (all p xs) k)) (sum_by p h xs (and_r (p x) (all p xs) k))

  pub sum_ℤ_by : (p : A → Bool) {f g : A → ℤ} → ((x : A) → T (p x) → f x ≡ g x) → (xs : List A) → T (all p xs) → sum_ℤ f xs ≡ sum_ℤ g xs
  unfolding sum_ℤ all
  sum_ℤ_by p h [] k = refl
  sum_ℤ_by p h (x ∷ xs) k =
      ap₂ (λ a b. a +ℤ b) (h x (and_l (p x) (all p xs) k)) (sum_ℤ_by p h xs (and_r (p x) (all p xs) k))

module _ {A B : Type 0} where
  pub all_map : (p : B → Bool) (g : A → B) (xs : List A) → all p (map g xs) ≡ all (λ x. p (g x)) xs
  unfolding all
  all_map p g [] = refl
  all_map p g (x ∷ xs) = ap (λ s. p (g x) && s) (all_map p g xs)

  -- what is equal at every element that passes
  pub map_by : (p : A → Bool) (f g : A → B) → ((x : A) → T (p x) → f x ≡ g x) → (xs : List A) → T (all p xs) → map f xs ≡ map g xs
  unfolding all
  map_by p f g e [] h = refl
  map_by p f g e (x ∷ xs) h =
      ap₂ (λ (y : B) (ys : List B). y ∷ ys) (e x (and_l (p x) (all p xs) h)) (map_by p f g e xs (and_r (p x) (all p xs) h))
