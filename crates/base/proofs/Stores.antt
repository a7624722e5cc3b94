-- What holds at one place and at any other; and at each place of a list after a store. Assumes nothing.
use Rattle.base.specs.Basics.{List, ◌≡◌, sym, subst, ℕ, ◌+◌, ◌<◌, arith, eqb, length, get_or, set, get_or-set_same, get_or-set_other, eqb-true, eqb-false}
use Rattle.base.proofs.{Tests.by_case, Linear.by_order}

-- at a place, and at any other
pub here_or_apart : (P : ℕ → Type 0) (i j : ℕ) → P i → ((j ≡ i → ⊥) → P j) → P j
here_or_apart P i j here apart = by_case (eqb j i) (λ y. subst P (sym (eqb-true j i y)) here) (λ y. apart (eqb-false j i y))

module _ {A : Type 0} (P : ℕ → A → Type 0) (xs : List A) (i : ℕ) (v d : A) (h : i < length xs) (here : P i v) where
  -- after a store: what is stored at its place, and elsewhere what was there
  pub set_each : ((j : ℕ) → (j ≡ i → ⊥) → P j (get_or xs j d)) → (j : ℕ) → P j (get_or (set xs i v) j d)
  set_each apart j =
      here_or_apart (λ (k : ℕ). P k (get_or (set xs i v) k d)) i j (rw (get_or-set_same xs i v d h) here) (λ n. rw (get_or-set_other xs i j v d n) (apart j n))

  -- a list that is filled in from the front: one place more
  pub set_front : ((j : ℕ) → j < i → P j (get_or xs j d)) → (j : ℕ) → j < i + 1 → P j (get_or (set xs i v) j d)
  set_front before j k =
      by_order j i (λ l. rw (get_or-set_other xs i j v d (λ z. omega arith)) (before j l))
      (λ l. let z : i ≡ j = omega arith in subst (λ (m : ℕ). P m (get_or (set xs i v) m d)) z (rw (get_or-set_same xs i v d h) here))
