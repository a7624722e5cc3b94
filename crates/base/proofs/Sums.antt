-- Laws of sums over a list. Assumes nothing.
use Rattle.base.specs.Basics.{◌≡◌, refl, sym, ◌∙◌, ap, ap₂, List, [], ◌∷◌, ◌++◌, map, ℕ, zero, suc, ◌+◌, ◌*◌, ◌<◌, ◌≤◌, le_of_suc-le-suc, not-suc-le-zero}
use Rattle.base.specs.Basics.{zero-mul, add-one, arith, ℤ, ◌+ℤ◌, ◌-ℤ◌, +ℤ_assoc, length, take, get_or, set, take-suc}
use Rattle.base.specs.{Parts.pos_part, Parts.neg_part, Sums.sum, Sums.sum_ℤ}
use Rattle.base.proofs.Linear.{pos_part-pos, neg_part-pos, parts_add, parts_sub, eq_parts}

module _ {A : Type 0} where
  -- ---- of naturals

  pub sum-zero : (xs : List A) → sum (λ x. 0) xs ≡ 0
  unfolding sum
  sum-zero [] = refl
  sum-zero (x ∷ xs) = omega (arith, sum-zero xs)

  pub sum-add : (f g : A → ℕ) (xs : List A) → sum (λ x. f x + g x) xs ≡ sum f xs + sum g xs
  unfolding sum
  sum-add f g [] = refl
  sum-add f g (x ∷ xs) = omega (arith, sum-add f g xs)

  pub sum-mul : (f : A → ℕ) (k : ℕ) (xs : List A) → sum (λ x. f x * k) xs ≡ sum f xs * k
  unfolding sum
  sum-mul f k [] = sym (zero-mul k)
  sum-mul f k (x ∷ xs) = omega (arith, sum-mul f k xs, native.Mathlib.Nat.add-mul (f x) (sum f xs) k)

  pub sum_ext : (f g : A → ℕ) → ((x : A) → f x ≡ g x) → (xs : List A) → sum f xs ≡ sum g xs
  unfolding sum
  sum_ext f g e [] = refl
  sum_ext f g e (x ∷ xs) = omega (arith, e x, sum_ext f g e xs)

  pub sum-le : (f g : A → ℕ) → ((x : A) → f x ≤ g x) → (xs : List A) → sum f xs ≤ sum g xs
  unfolding sum
  sum-le f g e [] = omega arith
  sum-le f g e (x ∷ xs) = omega (arith, e x, sum-le f g e xs)

  pub sum-append : (f : A → ℕ) (xs ys : List A) → sum f (xs ++ ys) ≡ sum f xs + sum f ys
  unfolding sum
  sum-append f [] ys = omega arith
  sum-append f (x ∷ xs) ys = omega (arith, sum-append f xs ys)

  -- of no element: where a loop that counts up begins
  pub sum-take-zero : (f : A → ℕ) (xs : List A) → sum f (take 0 xs) ≡ 0
  unfolding sum
  sum-take-zero f [] = refl
  sum-take-zero f (x ∷ xs) = refl

  -- of one element more: a turn of such a loop
  pub sum-take_suc : (f : A → ℕ) (xs : List A) (i : ℕ) (d : A) → i < length xs → sum f (take (i + 1) xs) ≡ sum f (take i xs) + f (get_or xs i d)
  unfolding sum
  sum-take_suc f xs i d h =
      rw (add-one, take-suc xs i d h) (omega (arith, sum-append f (take i xs) (get_or xs i d ∷ [])))

  -- one element replaced
  pub sum-set : (f : A → ℕ) (xs : List A) (i : ℕ) (y d : A) → i < length xs → sum f (set xs i y) + f (get_or xs i d) ≡ sum f xs + f y
  unfolding sum
  sum-set f [] i y d h = absurd (not-suc-le-zero h)
  sum-set f (x ∷ xs) zero y d h = omega arith
  sum-set f (x ∷ xs) (suc i) y d h = omega (arith, sum-set f xs i y d (le_of_suc-le-suc h))

  -- ---- of integers

  -- the parts of a sum, from the sums of the parts
  pub parts_sum : (f : A → ℤ) (xs : List A) → pos_part (sum_ℤ f xs) + sum (λ x. neg_part (f x)) xs ≡ sum (λ x. pos_part (f x)) xs + neg_part (sum_ℤ f xs)
  unfolding sum sum_ℤ
  parts_sum f [] = omega (arith, pos_part-pos 0, neg_part-pos 0)
  parts_sum f (x ∷ xs) = omega (arith, parts_sum f xs, parts_add (f x) (sum_ℤ f xs))

  pub sum_ℤ_ext : (f g : A → ℤ) → ((x : A) → f x ≡ g x) → (xs : List A) → sum_ℤ f xs ≡ sum_ℤ g xs
  unfolding sum_ℤ
  sum_ℤ_ext f g e [] = refl
  sum_ℤ_ext f g e (x ∷ xs) = ap₂ (λ a b. a +ℤ b) (e x) (sum_ℤ_ext f g e xs)

  pub sum_ℤ-add : (f g : A → ℤ) (xs : List A) → sum_ℤ (λ x. f x +ℤ g x) xs ≡ sum_ℤ f xs +ℤ sum_ℤ g xs
  unfolding sum_ℤ
  sum_ℤ-add f g [] = refl
  sum_ℤ-add f g (x ∷ xs) =
      ap (λ (z : ℤ). f x +ℤ g x +ℤ z) (sum_ℤ-add f g xs)
      ∙ eq_parts (f x +ℤ g x +ℤ (sum_ℤ f xs +ℤ sum_ℤ g xs)) ((f x +ℤ sum_ℤ f xs) +ℤ (g x +ℤ sum_ℤ g xs))
      (omega (
        arith,
        parts_add (f x) (g x),
        parts_add (sum_ℤ f xs) (sum_ℤ g xs),
        parts_add (f x +ℤ g x) (sum_ℤ f xs +ℤ sum_ℤ g xs),
        parts_add (f x) (sum_ℤ f xs),
        parts_add (g x) (sum_ℤ g xs),
        parts_add (f x +ℤ sum_ℤ f xs) (g x +ℤ sum_ℤ g xs),
      ))

  -- one element replaced: the sum changes by the difference
  pub sum_ℤ-set : (f : A → ℤ) (xs : List A) (i : ℕ) (y d : A) → i < length xs → sum_ℤ f (set xs i y) ≡ sum_ℤ f xs +ℤ (f y -ℤ f (get_or xs i d))
  unfolding sum_ℤ
  sum_ℤ-set f [] i y d h = absurd (not-suc-le-zero h)
  sum_ℤ-set f (x ∷ xs) zero y d h =
      eq_parts (f y +ℤ sum_ℤ f xs) (f x +ℤ sum_ℤ f xs +ℤ (f y -ℤ f x))
      (omega (
        arith,
        parts_add (f y) (sum_ℤ f xs),
        parts_add (f x) (sum_ℤ f xs),
        parts_sub (f y) (f x),
        parts_add (f x +ℤ sum_ℤ f xs) (f y -ℤ f x),
      ))
  sum_ℤ-set f (x ∷ xs) (suc i) y d h =
      ap (λ (z : ℤ). f x +ℤ z) (sum_ℤ-set f xs i y d (le_of_suc-le-suc h))
      ∙ sym (+ℤ_assoc (f x) (sum_ℤ f xs) (f y -ℤ f (get_or xs i d)))

module _ {A B : Type 0} where
  pub sum-map : (f : B → ℕ) (g : A → B) (xs : List A) → sum f (map g xs) ≡ sum (λ x. f (g x)) xs
  unfolding sum
  sum-map f g [] = refl
  sum-map f g (x ∷ xs) = ap (λ s. f (g x) + s) (sum-map f g xs)

  pub sum_ℤ-map : (f : B → ℤ) (g : A → B) (xs : List A) → sum_ℤ f (map g xs) ≡ sum_ℤ (λ x. f (g x)) xs
  unfolding sum_ℤ
  sum_ℤ-map f g [] = refl
  sum_ℤ-map f g (x ∷ xs) = ap (λ s. f (g x) +ℤ s) (sum_ℤ-map f g xs)

  -- two sums, one inside the other, change places
  pub sum_swap : (f : A → B → ℕ) (xs : List A) (ys : List B) → sum (λ x. sum (λ y. f x y) ys) xs ≡ sum (λ y. sum (λ x. f x y) xs) ys
  unfolding sum
  sum_swap f [] ys = sym (sum-zero ys)
  sum_swap f (x ∷ xs) ys =
      ap (λ s. sum (λ y. f x y) ys + s) (sum_swap f xs ys) ∙ sym (sum-add (λ y. f x y) (λ y. sum (λ z. f z y) xs) ys)
