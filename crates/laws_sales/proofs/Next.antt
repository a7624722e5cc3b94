-- The user that is reduced next, by a test of the user at each place. Assumes nothing.
use Rattle.base.specs.Basics.{◌≡◌, refl, sym, ◌∙◌, Bool, true, false, none, some, List, [], ◌∷◌, ℕ, zero, suc, ◌<◌, not-suc-le-zero, le_of_suc-le-suc, arith}
use Rattle.base.specs.Basics.{length, get_or}
use Rattle.rules.specs.{Book.Book, Book.User, Book.nobody, Calls.next_reduced, Levels.Limits}
use Rattle.laws_sales.specs.Cover.{due, Dues}

module _ (limits : Limits) (b : Book) where
  next_first : (us : List User) (i : ℕ) → i < length us → ((j : ℕ) → j < i → due limits b (get_or us j nobody) ≡ false) → due limits b (get_or us i nobody) ≡ true
      → next_reduced limits b us ≡ some (get_or us i nobody)
  unfolding next_reduced due
  next_first [] i h f e = absurd (not-suc-le-zero h)
  next_first (u ∷ us) zero h f e = rw e
  next_first (u ∷ us) (suc i) h f e = rw (f 0 (omega arith)) (next_first us i (le_of_suc-le-suc h) (λ j k. f (suc j) (omega arith)) e)

  next_nobody : (us : List User) → ((j : ℕ) → j < length us → due limits b (get_or us j nobody) ≡ false) → next_reduced limits b us ≡ none
  unfolding next_reduced due
  next_nobody [] f = refl
  next_nobody (u ∷ us) f = rw (f 0 (omega arith)) (next_nobody us (λ j k. f (suc j) (omega arith)))

module _ {limits : Limits} {b : Book} {ready : ℕ → Bool} (d : Dues limits b ready) where
  -- the first that is due
  pub next_ready : (i : ℕ) → i < length b.users → ((j : ℕ) → j < i → ready j ≡ false) → ready i ≡ true → next_reduced limits b b.users ≡ some (get_or b.users i nobody)
  next_ready i h f e =
      next_first limits b b.users i h (λ j k. sym (d.each j (omega arith)) ∙ f j k) (sym (d.each i h) ∙ e)

  -- nobody is
  pub next_over : ((j : ℕ) → j < length b.users → ready j ≡ false) → next_reduced limits b b.users ≡ none
  next_over f = next_nobody limits b b.users (λ j k. sym (d.each j k) ∙ f j k)
