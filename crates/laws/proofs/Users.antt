-- Users after one of them, or all of them, have changed. Assumes nothing.
use Rattle.base.specs.Basics.{◌≡◌, refl, sym, ap, ap₂, ◌∙◌, Bool, ◌&&◌, ◌||◌, List, [], ◌∷◌, map, ℕ, ◌≤◌, ◌<◌, le_of_eq, arith, T, eqb, ltb, eqb→eq, ltb→lt, ℤ}
use Rattle.base.specs.Basics.{◌+ℤ◌, +ℤ_assoc, +ℤ_comm, eqb-true}
use Rattle.base.specs.{Sums.sum_ℤ, Lists.all, Lists.any}
use Rattle.base.proofs.Tests.{and_l, and_r, and_i, by_test, all_by, by_case}
use Rattle.rules.specs.{Book.User, Book.Trade, Book.find, Changes.change, Questions.known, Questions.ids_rise, Questions.trade_is_valid, Questions.parties_valid}

-- ---- a change that keeps every id

module _ (g : User → User) (keeps : (u : User) → (g u).party ≡ u.party) where
  pub ids_rise-map : (low : ℕ) (us : List User) → ids_rise low (map g us) ≡ ids_rise low us
  unfolding ids_rise
  ids_rise-map low [] = refl
  ids_rise-map low (u ∷ us) =
      rw (keeps u) (ap (λ r. ltb low u.party.id && r) (ids_rise-map u.party.id us))

  pub known_map : (us : List User) (id : ℕ) → known (map g us) id ≡ known us id
  unfolding known any
  known_map [] id = refl
  known_map (u ∷ us) id = rw (keeps u) (ap (λ r. eqb u.party.id id || r) (known_map us id))

  pub trade_is_valid-map : (us : List User) (t : Trade) → trade_is_valid (map g us) t ≡ trade_is_valid us t
  unfolding trade_is_valid parties_valid
  trade_is_valid-map us t = rw (known_map us t.terms.seller, known_map us t.terms.buyer)

  pub trades_map : (us : List User) (ts : List Trade) → T (all (trade_is_valid us) ts) → T (all (trade_is_valid (map g us)) ts)
  trades_map us ts h = all_by (trade_is_valid us) (trade_is_valid (map g us)) (λ t k. rw (trade_is_valid-map us t) k) ts h

-- ---- one user's change

-- no user of ids above `low` has the id
pub change_absent : (f : User → User) (us : List User) (low id : ℕ) → id ≤ low → T (ids_rise low us) → change id f us ≡ us
unfolding change ids_rise
change_absent f [] low id h r = refl
change_absent f (u ∷ us) low id h r =
    let lt : low < u.party.id = ltb→lt low u.party.id (and_l (ltb low u.party.id) (ids_rise u.party.id us) r) in
    let rest : change id f us ≡ us = change_absent f us u.party.id id (omega arith) (and_r (ltb low u.party.id) (ids_rise u.party.id us) r) in
    by_test (λ v. v ∷ change id f us ≡ u ∷ us) (eqb u.party.id id)
    (λ t. absurd (omega (arith, eqb→eq u.party.id id t)))
    (λ t. ap (λ r. u ∷ r) rest)

-- what holds of all holds after the change, if it holds of the changed record
pub change-all : (p q : User → Bool) (f : User → User) (id : ℕ) → ((u : User) → T (p u) → T (q u))
    → (us : List User) (low : ℕ) → T (ids_rise low us) → T (all p us) → T (q (f (find us id))) → T (all q (change id f us))
unfolding change ids_rise find all
change-all p q f id h [] low r k n = tt
change-all p q f id h (u ∷ us) low r k n =
    let rest = and_r (ltb low u.party.id) (ids_rise u.party.id us) r in
    let pus = and_r (p u) (all p us) k in
    by_case (eqb u.party.id id)
    (λ e. rw (e, change_absent f us u.party.id id (le_of_eq (sym (eqb-true u.party.id id e))) rest)
    (and_i (q (f u)) (all q us) (rw e at n) (all_by p q h us pus)))
    (λ e. rw e
    (and_i (q u) (all q (change id f us)) (h u (and_l (p u) (all p us) k)) (change-all p q f id h us u.party.id rest pus (rw e at n))))

-- a sum after the change, if the changed record has d more
pub change_sum : (h : User → ℤ) (d : ℤ) (f : User → User) (id : ℕ) (us : List User) (low : ℕ) → T (ids_rise low us) → T (known us id)
    → h (f (find us id)) ≡ h (find us id) +ℤ d → sum_ℤ h (change id f us) ≡ sum_ℤ h us +ℤ d
unfolding change ids_rise known any sum_ℤ find
change_sum h d f id [] low r k e = absurd k
change_sum h d f id (u ∷ us) low r k e =
    let rest = and_r (ltb low u.party.id) (ids_rise u.party.id us) r in
    by_case (eqb u.party.id id)
    (λ t. rw (t, change_absent f us u.party.id id (le_of_eq (sym (eqb-true u.party.id id t))) rest)
    (ap (λ x. x +ℤ sum_ℤ h us) (rw t at e) ∙ +ℤ_assoc (h u) d (sum_ℤ h us) ∙ ap (λ x. h u +ℤ x) (+ℤ_comm d (sum_ℤ h us)) ∙ sym (+ℤ_assoc (h u) (sum_ℤ h us) d)))
    (λ t. rw t (ap (λ x. h u +ℤ x) (change_sum h d f id us u.party.id rest (rw t at k) (rw t at e)) ∙ sym (+ℤ_assoc (h u) (sum_ℤ h us) d)))

-- a sum after a change that leaves every summand
pub map_sum : (h : User → ℤ) (g : User → User) → ((u : User) → h (g u) ≡ h u) → (us : List User) → sum_ℤ h (map g us) ≡ sum_ℤ h us
unfolding sum_ℤ
map_sum h g e [] = refl
map_sum h g e (u ∷ us) = ap₂ (λ x y. x +ℤ y) (e u) (map_sum h g e us)

-- what holds of all users holds of the one of a known id
pub all-find : (p : User → Bool) (us : List User) (id : ℕ) → T (all p us) → T (known us id) → T (p (find us id))
unfolding all known any find
all-find p [] id h k = absurd k
all-find p (u ∷ us) id h k =
    by_case (eqb u.party.id id) (λ e. rw e (and_l (p u) (all p us) h)) (λ e. rw e (all-find p us id (and_r (p u) (all p us) h) (rw e at k)))

-- the user of a known id has that id
pub known-id : (us : List User) (id : ℕ) → T (known us id) → (find us id).party.id ≡ id
unfolding known any find
known-id [] id k = absurd k
known-id (u ∷ us) id k = by_case (eqb u.party.id id) (λ e. rw e (eqb-true u.party.id id e)) (λ e. rw e (known-id us id (rw e at k)))
