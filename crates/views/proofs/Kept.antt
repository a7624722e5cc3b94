-- Sums over the elements of a list that pass a test, and users looked for among them. Assumes nothing.
use Rattle.base.specs.Basics.{◌≡◌, ◌∙◌, ap, refl, sym, Bool, not, cond, List, [], ◌∷◌, map, ℕ, zero, suc, ◌+◌, ◌<◌, ◌≤◌, le_of_eq, arith, T, eqb, eqb→eq, ltb}
use Rattle.base.specs.Basics.{ltb→lt, ℤ, ◌+ℤ◌, pos, +ℤ_idl, get_or, eqb-true}
use Rattle.base.specs.Sums.{sum, sum_ℤ}
use Rattle.base.proofs.Tests.{and_l, and_r, by_case, by_test}
use Rattle.rules.specs.{Book.User, Book.find, Book.nobody, Questions.ids_rise}
use Rattle.laws_sales.specs.Kept.{kept}
use Rattle.views.specs.Kept.{place_kept}

module _ {A : Type 0} (p : A → Bool) where
  -- ---- sums in which the others count 0

  pub kept-sum : (f : A → ℕ) → ((x : A) → T (not (p x)) → f x ≡ 0) → (xs : List A) → sum f (kept p xs) ≡ sum f xs
  unfolding sum kept
  kept-sum f z [] = refl
  kept-sum f z (x ∷ xs) =
      let rest = kept-sum f z xs in
      by_test (λ (ys : List A). sum f ys ≡ f x + sum f xs) (p x) (λ t. ap (λ (n : ℕ). f x + n) rest) (λ t. rest ∙ omega (arith, z x t))

  pub kept-sum_ℤ : (f : A → ℤ) → ((x : A) → T (not (p x)) → f x ≡ pos 0) → (xs : List A) → sum_ℤ f (kept p xs) ≡ sum_ℤ f xs
  unfolding sum_ℤ kept
  kept-sum_ℤ f z [] = refl
  kept-sum_ℤ f z (x ∷ xs) =
      let rest = kept-sum_ℤ f z xs in
      by_test (λ (ys : List A). sum_ℤ f ys ≡ f x +ℤ sum_ℤ f xs) (p x) (λ t. ap (λ (n : ℤ). f x +ℤ n) rest)
      (λ t. rest ∙ sym (+ℤ_idl (sum_ℤ f xs)) ∙ ap (λ (n : ℤ). n +ℤ sum_ℤ f xs) (sym (z x t)))

-- ---- what is read of the elements that pass

module _ {A B : Type 0} (p : B → Bool) (read : A → B) where
  pub map-kept : (xs : List A) → map read (kept (λ x. p (read x)) xs) ≡ kept p (map read xs)
  unfolding kept
  map-kept [] = refl
  map-kept (x ∷ xs) =
      by_case (p (read x)) (λ e. rw e (ap (λ (ys : List B). read x ∷ ys) (map-kept xs))) (λ e. rw e (map-kept xs))

  -- where they stand
  pub place_map : (xs : List A) (ordinal : ℕ) → place_kept (λ x. p (read x)) xs ordinal ≡ place_kept p (map read xs) ordinal
  unfolding place_kept
  place_map [] ordinal = refl
  place_map (x ∷ xs) zero = ap (λ (n : ℕ). cond (p (read x)) 0 (suc n)) (place_map xs 0)
  place_map (x ∷ xs) (suc ordinal) = ap suc (place_map xs (cond (p (read x)) ordinal (suc ordinal)))

-- the element that passes, by ordinal, stands at its place; past the last there is none
module _ {A : Type 0} (p : A → Bool) (d : A) where
  pub get_d_kept : (xs : List A) (ordinal : ℕ) → get_or (kept p xs) ordinal d ≡ get_or xs (place_kept p xs ordinal) d
  unfolding kept place_kept
  get_d_kept [] ordinal = refl
  get_d_kept (x ∷ xs) zero = by_case (p x) (λ e. rw e) (λ e. rw e (get_d_kept xs 0))
  get_d_kept (x ∷ xs) (suc ordinal) = by_case (p x) (λ e. rw e (get_d_kept xs ordinal)) (λ e. rw e (get_d_kept xs (suc ordinal)))

-- ---- a user of an id among those that pass

module _ (p : User → Bool) where
  absent : (us : List User) (low id : ℕ) → id ≤ low → T (ids_rise low us) → find (kept p us) id ≡ nobody
  unfolding find kept ids_rise
  absent [] low id h r = refl
  absent (u ∷ us) low id h r =
      let lt : low < u.party.id = ltb→lt low u.party.id (and_l (ltb low u.party.id) (ids_rise u.party.id us) r) in
      let rest : find (kept p us) id ≡ nobody = absent us u.party.id id (omega arith) (and_r (ltb low u.party.id) (ids_rise u.party.id us) r) in
      by_test (λ (vs : List User). find vs id ≡ nobody) (p u)
      (λ t. by_test (λ (v : User). v ≡ nobody) (eqb u.party.id id) (λ e. absurd (omega (arith, eqb→eq u.party.id id e))) (λ e. rest))
      (λ t. rest)

  -- ids rise, so there is one user of an id at most: it is found where it passes
  pub find-kept : (us : List User) (low id : ℕ) → T (ids_rise low us) → find (kept p us) id ≡ cond (p (find us id)) (find us id) nobody
  unfolding find kept ids_rise
  find-kept [] low id r = by_test (λ (v : User). nobody ≡ v) (p nobody) (λ t. refl) (λ t. refl)
  find-kept (u ∷ us) low id r =
      let rest = and_r (ltb low u.party.id) (ids_rise u.party.id us) r in
      let others = find-kept us u.party.id id rest in
      by_case (eqb u.party.id id)
      (λ e. by_case (p u) (λ t. rw (e, t, e))
      (λ t. rw (e, t) (absent us u.party.id id (le_of_eq (sym (eqb-true u.party.id id e))) rest)))
      (λ e. by_case (p u) (λ t. rw (e, t, e) others) (λ t. rw (e, t) others))
