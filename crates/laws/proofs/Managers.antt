-- What question 5 says of managers, in an accepted book: who bears a user's risk is a user of the book and bears its own. Assumes nothing.
use Rattle.base.specs.Basics.{◌≡◌, ap, Bool, cond, ◌&&◌, List, ℕ, ◌<◌, T, eqb, eqb→eq, eq-eqb}
use Rattle.base.proofs.Tests.{and_l, and_r, by_test, of_three, or_second}
use Rattle.laws.proofs.Users.{all-find, known-id}
use Rattle.laws.specs.Sound.{Sound}
use Rattle.rules.specs.{Areas.managers_in, Questions.groups_valid, Questions.known, Questions.manager_valid, Questions.managers_are_valid, Questions.manages}
use Rattle.rules.specs.{Bearers.bearer, Book.Book, Book.User, Book.find, Book.manager_in}

-- one area of the three
pub manager_at : (version : ℕ) (us : List User) (u : User) (area : ℕ) → area < 3 → T (managers_are_valid version us u) → T (manager_valid version us u area)
unfolding managers_are_valid
manager_at version us u area l h =
    of_three (λ (a : ℕ). T (manager_valid version us u a)) (search (and_l, and_r)) (search (and_l, and_r)) (search (and_l, and_r)) area l

-- a user without a manager bears its own risk
pub own_bearer : (u : User) (area : ℕ) → manager_in u.party.managers area ≡ 0 → bearer u area ≡ u.party.id
unfolding bearer
own_bearer u area none = ap (λ (c : Bool). cond c u.party.id (manager_in u.party.managers area)) (eq-eqb (manager_in u.party.managers area) 0 none)

-- who bears the risk: the user itself, or its manager
by_bearer : (version : ℕ) (us : List User) (u : User) (area : ℕ) (P : ℕ → Type 0) → T (manager_valid version us u area)
    → (manager_in u.party.managers area ≡ 0 → P u.party.id)
    → (T (manages us (manager_in u.party.managers area) u area) → P (manager_in u.party.managers area)) → P (bearer u area)
unfolding bearer manager_valid
by_bearer version us u area P h own managed =
    let m = manager_in u.party.managers area in
    by_test P (eqb m 0) (λ t. own (eqb→eq m 0 t))
    (λ t. managed (and_r (managers_in version) (manages us m u area) (or_second (eqb m 0) (managers_in version && manages us m u area) t h)))

module _ (b : Book) (s : Sound b) where
  -- of the user of a known id
  valid_manager : (id area : ℕ) → area < 3 → T (known b.users id) → T (manager_valid b.header.version b.users (find b.users id) area)
  unfolding groups_valid
  valid_manager id area l k =
      manager_at b.header.version b.users (find b.users id) area l (all-find (managers_are_valid b.header.version b.users) b.users id s.groups k)

  -- who bears the risk of a user of the book is one
  pub bearer-known : (id area : ℕ) → area < 3 → T (known b.users id) → T (known b.users (bearer (find b.users id) area))
  unfolding manages
  bearer-known id area l k =
      by_bearer b.header.version b.users (find b.users id) area (λ (n : ℕ). T (known b.users n)) (valid_manager id area l k)
      (λ none. rw (known-id b.users id k) k)
      (λ h. search (and_l, and_r))
