-- The parties of trades by their places among users. Assumes nothing.
use Rattle.base.specs.Basics.{◌≡◌, sym, ap, ◌∙◌, List, map, ℕ, ◌<◌, arith, T, eqb, ltb, eqb→eq, ltb→lt, length, get_or, length-map, get_or-map}
use Rattle.base.specs.Basics.{get_or-take}
use Rattle.base.proofs.Fronts.{all_at, get_or_inside}
use Rattle.base.proofs.Tests.{eqb_of, same_test}
use Rattle.base.specs.Lists.{all}
use Rattle.book_parties.proofs.Known.{among-known, place_in_among}
use Rattle.book_parties.proofs.Rising.{length_ids, place_in_at, place_in_holds, rising_ids}
use Rattle.book_parties.specs.Ids.{PlacedOn, id_at, ids_of, place_in}
use Rattle.rules.specs.Book.{Terms, Trade, User, no_trade, nobody}
use Rattle.rules.specs.Questions.{ids_rise, known}

-- the place of a trade's party
module _ (side : Terms → ℕ) (us : List User) (ts : List Trade) (ps : List ℕ) (placed : PlacedOn side us ts ps) where
  pub placed_at : (i : ℕ) (d : Trade) → i < length ts → get_or ps i 0 ≡ place_in (ids_of us) (side (get_or ts i d).terms)
  placed_at i d h =
      let one : Trade → ℕ = λ t. place_in (ids_of us) (side t.terms) in
      sym (get_or-take (length ts) ps i 0 h) ∙ ap (λ (xs : List ℕ). get_or xs i 0) placed
      ∙ get_or_inside (map one ts) i 0 (one d) (omega (arith, length-map ts one))
      ∙ get_or-map one ts i d

-- the id at a place
pub ids_at : (us : List User) (p : ℕ) → get_or (ids_of us) p 0 ≡ id_at us p
unfolding ids_of nobody
ids_at us p = get_or-map (λ (u : User). u.party.id) us p nobody

-- a known id has a place, and stands there
pub known_place : (us : List User) (id : ℕ) → T (known us id) → place_in (ids_of us) id < length us
known_place us id k =
    let is : ltb (place_in (ids_of us) id) (length (ids_of us)) ≡ known us id = place_in_among (ids_of us) id ∙ among-known us id in
    omega (arith, length_ids us, ltb→lt (place_in (ids_of us) id) (length (ids_of us)) (rw is k))

pub known_at : (us : List User) (id : ℕ) → T (known us id) → id_at us (place_in (ids_of us) id) ≡ id
known_at us id k = sym (ids_at us (place_in (ids_of us) id)) ∙ place_in_holds (ids_of us) id (omega (arith, length_ids us, known_place us id k))

-- an id has a place where the id at that place is it
pub place_is : (us : List User) → T (ids_rise 0 us) → (p id : ℕ) → p < length us → eqb (place_in (ids_of us) id) p ≡ eqb id (id_at us p)
place_is us rise p id h =
    same_test (eqb (place_in (ids_of us) id) p) (eqb id (id_at us p))
    (λ t.
    let e : place_in (ids_of us) id ≡ p = eqb→eq (place_in (ids_of us) id) p t in
    eqb_of id (id_at us p)
    (sym (place_in_holds (ids_of us) id (omega (arith, length_ids us))) ∙ ap (λ (k : ℕ). get_or (ids_of us) k 0) e ∙ ids_at us p))
    (λ t.
    let e : id ≡ id_at us p = eqb→eq id (id_at us p) t in
    eqb_of (place_in (ids_of us) id) p
    (place_in_at (ids_of us) id p (omega (arith, length_ids us)) (ids_at us p ∙ sym e)
    (λ j k f. omega (arith, e, f, ids_at us p, (rising_ids us rise).rise j p k (omega (arith, length_ids us))))))

-- a party of a trade, on a side where all are users
module _ (side : Terms → ℕ) (us : List User) (ts : List Trade) (ps : List ℕ) (rise : T (ids_rise 0 us)) (users : T (all (λ t. known us (side t.terms)) ts)) (placed : PlacedOn side us ts ps)
    {i party : ℕ} (l : i < length ts) (e : party ≡ get_or ps i 0) where
  party_place : party ≡ place_in (ids_of us) (side (get_or ts i no_trade).terms)
  party_place = e ∙ placed_at side us ts ps placed i no_trade l

  party_known : T (known us (side (get_or ts i no_trade).terms))
  party_known = all_at (λ t. known us (side t.terms)) ts users i no_trade l

  -- it is one of the users
  pub party_within : party < length us
  party_within = omega (arith, party_place, known_place us (side (get_or ts i no_trade).terms) party_known)

  -- its id stands at its place
  pub party-id : id_at us party ≡ side (get_or ts i no_trade).terms
  party-id = ap (id_at us) party_place ∙ known_at us (side (get_or ts i no_trade).terms) party_known

  -- it has a place where the id there is its own
  pub party_is : (p : ℕ) → p < length us → eqb party p ≡ eqb (side (get_or ts i no_trade).terms) (id_at us p)
  party_is p h = ap (λ (k : ℕ). eqb k p) party_place ∙ place_is us rise p (side (get_or ts i no_trade).terms) h
