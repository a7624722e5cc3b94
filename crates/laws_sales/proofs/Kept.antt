-- The elements that pass a test, and numbers spread over a list. Assumes nothing.
use Rattle.base.specs.Basics.{◌≡◌, refl, ap, ap₂, Bool, true, false, not, ◌&&◌, ◌||◌, List, [], ◌∷◌, map, ℕ, ◌+◌, ◌≤◌, le_refl, arith, T, length}
use Rattle.base.proofs.Tests.{and_l, and_r, and_i, holds, fails, by_case}
use Rattle.base.specs.Lists.{all, any}
use Rattle.rules.specs.Reduction.{together}
use Rattle.laws_sales.specs.Kept.{kept, spread}

module _ {A : Type 0} (p : A → Bool) where
  -- ---- one element

  pub kept_yes : (x : A) (xs : List A) → p x ≡ true → kept p (x ∷ xs) ≡ x ∷ kept p xs
  unfolding kept
  kept_yes x xs e = rw e

  pub kept_no : (x : A) (xs : List A) → p x ≡ false → kept p (x ∷ xs) ≡ kept p xs
  unfolding kept
  kept_no x xs e = rw e

  pub spread_yes : (x : A) (xs : List A) (n : ℕ) (ns : List ℕ) → p x ≡ true → spread p (x ∷ xs) (n ∷ ns) ≡ n ∷ spread p xs ns
  unfolding spread
  spread_yes x xs n ns e = rw e

  pub spread_no : (x : A) (xs : List A) (ns : List ℕ) → p x ≡ false → spread p (x ∷ xs) ns ≡ 0 ∷ spread p xs ns
  unfolding spread
  spread_no x xs [] e = refl
  spread_no x xs (n ∷ ns) e = rw e

  -- ---- lists

  -- what holds of all holds of those that pass, and so does the test
  pub kept-all : (q : A → Bool) (xs : List A) → T (all q xs) → T (all q (kept p xs))
  unfolding all kept
  kept-all q [] h = h
  kept-all q (x ∷ xs) h =
      let k = kept-all q xs (and_r (q x) (all q xs) h) in
      by_case (p x) (λ e. rw (kept_yes x xs e) (and_i (q x) (all q (kept p xs)) (and_l (q x) (all q xs) h) k)) (λ e. rw (kept_no x xs e) k)

  pub kept_pass : (xs : List A) → T (all p (kept p xs))
  unfolding all kept
  kept_pass [] = tt
  kept_pass (x ∷ xs) =
      by_case (p x) (λ e. rw (kept_yes x xs e) (and_i (p x) (all p (kept p xs)) (holds e) (kept_pass xs))) (λ e. rw (kept_no x xs e) (kept_pass xs))

  -- no more than there are
  pub kept_most : (xs : List A) → length (kept p xs) ≤ length xs
  unfolding kept
  kept_most [] = le_refl 0
  kept_most (x ∷ xs) = by_case (p x) (λ e. rw e (omega (arith, kept_most xs))) (λ e. rw e (omega (arith, kept_most xs)))

  -- some element that passes has a property
  pub any-kept : (q : A → Bool) (xs : List A) → any (λ x. p x && q x) xs ≡ any q (kept p xs)
  unfolding any kept
  any-kept q [] = refl
  any-kept q (x ∷ xs) =
      by_case (p x)
      (λ e. rw e (ap (λ (c : Bool). q x || c) (any-kept q xs)))
      (λ e. rw e (any-kept q xs))

  -- what is read off the elements, and is 0 where the test fails, is what is read off those that pass, spread
  pub spread-map : (f : A → ℕ) → ((x : A) → T (not (p x)) → f x ≡ 0) → (xs : List A) → map f xs ≡ spread p xs (map f (kept p xs))
  unfolding spread
  spread-map f z [] = refl
  spread-map f z (x ∷ xs) =
      by_case (p x)
      (λ e. rw (kept_yes x xs e, spread_yes x xs (f x) (map f (kept p xs)) e) (ap (λ (ns : List ℕ). f x ∷ ns) (spread-map f z xs)))
      (λ e. rw (kept_no x xs e, spread_no x xs (map f (kept p xs)) e) (ap₂ (λ (n : ℕ) (ns : List ℕ). n ∷ ns) (z x (fails e)) (spread-map f z xs)))

  -- sums of each two are spread together
  pub spread-together : (xs : List A) (ms ns : List ℕ) → length ms ≡ length ns → together (spread p xs ms) (spread p xs ns) ≡ spread p xs (together ms ns)
  unfolding spread together
  spread-together [] ms ns e = refl
  spread-together (x ∷ xs) [] [] e = ap (λ (ks : List ℕ). 0 ∷ ks) (spread-together xs [] [] e)
  spread-together (x ∷ xs) [] (n ∷ ns) e = absurd (omega arith)
  spread-together (x ∷ xs) (m ∷ ms) [] e = absurd (omega arith)
  spread-together (x ∷ xs) (m ∷ ms) (n ∷ ns) e =
      by_case (p x)
      (λ h. rw h (ap (λ (ks : List ℕ). (m + n) ∷ ks) (spread-together xs ms ns (omega arith))))
      (λ h. rw h (ap (λ (ks : List ℕ). 0 ∷ ks) (spread-together xs (m ∷ ms) (n ∷ ns) e)))

-- the elements that pass after a change, and numbers spread over those
module _ {A : Type 0} (p : A → Bool) (f : A → A) where
  pub kept_map : (xs : List A) → kept p (map f xs) ≡ map f (kept (λ x. p (f x)) xs)
  unfolding kept
  kept_map [] = refl
  kept_map (x ∷ xs) = by_case (p (f x)) (λ e. rw e (ap (λ (ys : List A). f x ∷ ys) (kept_map xs))) (λ e. rw e (kept_map xs))

  pub spread_through : (xs : List A) (ns : List ℕ) → spread p (map f xs) ns ≡ spread (λ x. p (f x)) xs ns
  unfolding spread
  spread_through [] ns = refl
  spread_through (x ∷ xs) [] = ap (λ (ks : List ℕ). 0 ∷ ks) (spread_through xs [])
  spread_through (x ∷ xs) (n ∷ ns) =
      by_case (p (f x))
      (λ e. rw e (ap (λ (ks : List ℕ). n ∷ ks) (spread_through xs ns)))
      (λ e. rw e (ap (λ (ks : List ℕ). 0 ∷ ks) (spread_through xs (n ∷ ns))))
