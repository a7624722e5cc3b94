-- Ids that rise: those of users do where the rules' test says so; and the place of an id among them. Assumes nothing.
use Rattle.base.specs.Basics.{◌≡◌, refl, ap, ◌∙◌, Bool, true, false, cond, List, [], ◌∷◌, ℕ, zero, suc, ◌<◌, arith, T, eqb, ltb, ltb→lt, length, get_or, length-map}
use Rattle.base.specs.Basics.{eq-eqb, ne_eqb, eqb-true}
use Rattle.rules.specs.Book.{User}
use Rattle.rules.specs.Questions.{ids_rise}
use Rattle.base.proofs.Tests.{and_l, and_r}
use Rattle.book_parties.specs.Ids.{ids_of, place_in, Rising}

-- ---- the ids of users

pub length_ids : (us : List User) → length (ids_of us) ≡ length us
unfolding ids_of
length_ids us = length-map us (λ (u : User). u.party.id)

module _ (u : User) (us : List User) (last : ℕ) (h : T (ids_rise last (u ∷ us))) where
  -- the first is above the last, and those after it rise from there
  first_above : last < u.party.id
  unfolding ids_rise
  first_above = ltb→lt last u.party.id (and_l (ltb last u.party.id) (ids_rise u.party.id us) h)

  rest_rise : T (ids_rise u.party.id us)
  unfolding ids_rise
  rest_rise = and_r (ltb last u.party.id) (ids_rise u.party.id us) h

-- each is above the last
ids_above : (us : List User) (last : ℕ) → T (ids_rise last us) → (j : ℕ) → j < length (ids_of us) → last < get_or (ids_of us) j 0
unfolding ids_of
ids_above [] last h j k = absurd (omega arith)
ids_above (u ∷ us) last h zero k = first_above u us last h
ids_above (u ∷ us) last h (suc j) k =
    omega (arith, first_above u us last h, ids_above us u.party.id (rest_rise u us last h) j (omega arith))

ids_rise_lem : (us : List User) (last : ℕ) → T (ids_rise last us) → (i j : ℕ) → i < j → j < length (ids_of us) → get_or (ids_of us) i 0 < get_or (ids_of us) j 0
unfolding ids_of
ids_rise_lem [] last h i j l k = absurd (omega arith)
ids_rise_lem (u ∷ us) last h i zero l k = absurd (omega arith)
ids_rise_lem (u ∷ us) last h zero (suc j) l k = ids_above us u.party.id (rest_rise u us last h) j (omega arith)
ids_rise_lem (u ∷ us) last h (suc i) (suc j) l k = ids_rise_lem us u.party.id (rest_rise u us last h) i j (omega arith) (omega arith)

pub rising_ids : (us : List User) → T (ids_rise 0 us) → Rising (ids_of us)
rising_ids us h = record { rise = ids_rise_lem us 0 h }

-- ---- the place of an id by the ids

-- the first that is the id
pub place_in_at : (xs : List ℕ) (id i : ℕ) → i < length xs → get_or xs i 0 ≡ id → ((j : ℕ) → j < i → get_or xs j 0 ≡ id → ⊥) → place_in xs id ≡ i
unfolding place_in
place_in_at [] id i h e f = absurd (omega arith)
place_in_at (x ∷ xs) id zero h e f = ap (λ (b : Bool). cond b 0 (suc (place_in xs id))) (eq-eqb x id e)
place_in_at (x ∷ xs) id (suc i) h e f =
    ap (λ (b : Bool). cond b 0 (suc (place_in xs id))) (ne_eqb x id (f 0 (omega arith)))
    ∙ ap (λ (n : ℕ). suc n) (place_in_at xs id i (omega arith) e (λ j k. f (suc j) (omega arith)))

-- none is the id
pub place_in_none : (xs : List ℕ) (id : ℕ) → ((j : ℕ) → j < length xs → get_or xs j 0 ≡ id → ⊥) → place_in xs id ≡ length xs
unfolding place_in
place_in_none [] id f = refl
place_in_none (x ∷ xs) id f =
    ap (λ (b : Bool). cond b 0 (suc (place_in xs id))) (ne_eqb x id (f 0 (omega arith)))
    ∙ ap (λ (n : ℕ). suc n) (place_in_none xs id (λ j k. f (suc j) (omega arith)))

-- a place below the number of ids is that of the id
pub place_in_holds : (xs : List ℕ) (id : ℕ) → place_in xs id < length xs → get_or xs (place_in xs id) 0 ≡ id
unfolding place_in
place_in_holds [] id h = absurd (omega arith)
place_in_holds (x ∷ xs) id h = go (eqb x id) refl (place_in_holds xs id) h
  where
    go : (b : Bool) → eqb x id ≡ b → (place_in xs id < length xs → get_or xs (place_in xs id) 0 ≡ id)
        → cond b 0 (suc (place_in xs id)) < suc (length xs) → get_or (x ∷ xs) (cond b 0 (suc (place_in xs id))) 0 ≡ id
    go true e f k = eqb-true x id e
    go false e f k = f (omega arith)
