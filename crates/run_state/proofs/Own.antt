-- The own sales of the book that a run has come to, in the arrays of the opening book. Assumes nothing.
use Rattle.base.specs.Basics.{◌≡◌, refl, sym, ap, fun_ext, ◌∙◌, List, [], ◌∷◌, map, map-map, ℕ, suc, ◌<◌, arith, pos, length}
use Rattle.book_format.specs.Steps.{place_of}
use Rattle.rules.specs.Book.{Book, Party, PerArea, Terms, Trade, User}
use Rattle.run_state.proofs.Stays.{Alike, alike_many, party_stays}
use Rattle.run_state.specs.{Asked.member_at, Going.SalesIn}
use Rattle.laws_sales.proofs.{Own.own_sales_lem, Standing.terms_stay}
use Rattle.laws_sales.specs.{Groups.starts, Parts.part, Reduced.own_sales, Sales.sales_of}

-- the place of an id is read of the parties alone
place_through : (p : Party → User) → ((q : Party) → (p q).party ≡ q) → (us : List User) (id : ℕ) → place_of (map (λ u. p u.party) us) id ≡ place_of us id
unfolding place_of
place_through p e [] id = refl
place_through p e (u ∷ us) id = rw (e u.party, place_through p e us id)

bare : Party → User
bare q =
    let none : PerArea = record { pvb = pos 0; tvb = pos 0; avb = pos 0 } in
    record { party = q; physical = none; position = none; blocked = 0 }

pub place_same : (us vs : List User) → map (λ u. u.party) us ≡ map (λ u. u.party) vs → (id : ℕ) → place_of us id ≡ place_of vs id
unfolding bare
place_same us vs e id =
    sym (place_through bare (λ q. refl) us id)
    ∙ ap (λ (ws : List User). place_of ws id) (sym (map-map bare (λ (u : User). u.party) us) ∙ ap (map bare) e ∙ map-map bare (λ (u : User). u.party) vs)
    ∙ place_through bare (λ q. refl) vs id

module _ {o b : Book} (t : Alike o b) where
  pub place_stays : (id : ℕ) → place_of b.users id ≡ place_of o.users id
  place_stays id = place_same b.users o.users t.parties id

  module _ {ss area_codes bs : List ℕ} (q : SalesIn o ss area_codes bs) (i : ℕ) (k : i < length b.users) where
    inside : i < length o.users
    inside = omega (arith, alike_many t)

    terms_all : (g : Terms → ℕ) → map (λ s. g s.terms) (own_sales o (member_at o i)) ≡ map (λ s. g s.terms) (own_sales b (member_at b i))
    terms_all g =
        sym (terms_stay own_sales_lem g (member_at o i).party.id t.framed)
        ∙ ap (λ (p : Party). map (λ s. g s.terms) (sales_of b.trades p.id)) (sym (party_stays t i))

    pub own_areas : part (starts o i) (starts o (suc i)) area_codes ≡ map (λ s. s.terms.area) (own_sales b (member_at b i))
    own_areas = q.areas_at i inside ∙ terms_all (λ r. r.area)

    pub own_buyers : part (starts o i) (starts o (suc i)) bs ≡ map (λ s. place_of b.users s.terms.buyer) (own_sales b (member_at b i))
    own_buyers =
        q.buyers_at i inside ∙ terms_all (λ r. place_of o.users r.buyer)
        ∙ ap (λ (g : ℕ → ℕ). map (λ (s : Trade). g s.terms.buyer) (own_sales b (member_at b i))) (fun_ext (λ (id : ℕ). sym (place_stays id)))
