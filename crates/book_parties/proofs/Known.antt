-- Ids beside users: an id is among the ids of users where it is known, at the place that its user has. Assumes nothing.
use Rattle.base.specs.Basics.{◌≡◌, refl, ap, ◌∙◌, Bool, true, false, cond, ◌||◌, List, [], ◌∷◌, ℕ, suc, ◌≤◌, arith, eqb, ltb, leb-suc-suc, length}
use Rattle.base.specs.Basics.{take, length-take-le, lt-ltb}
use Rattle.base.specs.Lists.{any}
use Rattle.rules.specs.Book.{User}
use Rattle.rules.specs.Questions.{known}
use Rattle.book_format.specs.Steps.{place_of}
use Rattle.book_parties.specs.Ids.{ids_of, place_in, among}

pub among-known : (us : List User) (id : ℕ) → among (ids_of us) id ≡ known us id
unfolding among ids_of known any
among-known [] id = refl
among-known (u ∷ us) id = ap (λ (b : Bool). eqb u.party.id id || b) (among-known us id)

pub place_in_place_of : (us : List User) (id : ℕ) → place_in (ids_of us) id ≡ place_of us id
unfolding place_in ids_of place_of
place_in_place_of [] id = refl
place_in_place_of (u ∷ us) id = ap (λ (n : ℕ). cond (eqb u.party.id id) 0 (suc n)) (place_in_place_of us id)

-- the place is below the number of ids where the id is among them
pub place_in_among : (xs : List ℕ) (id : ℕ) → ltb (place_in xs id) (length xs) ≡ among xs id
unfolding place_in among any
place_in_among [] id = refl
place_in_among (x ∷ xs) id = go (eqb x id) (place_in_among xs id)
  where
    go : (c : Bool) → ltb (place_in xs id) (length xs) ≡ among xs id → ltb (cond c 0 (suc (place_in xs id))) (suc (length xs)) ≡ (c || among xs id)
    go true h = lt-ltb 0 (suc (length xs)) (omega arith)
    go false h = leb-suc-suc (suc (place_in xs id)) (length xs) ∙ h

-- the same among the first n ids
pub place_among : (xs : List ℕ) (n id : ℕ) → n ≤ length xs → ltb (place_in (take n xs) id) n ≡ among (take n xs) id
place_among xs n id h = rw (length-take-le n xs h) at (place_in_among (take n xs) id)
