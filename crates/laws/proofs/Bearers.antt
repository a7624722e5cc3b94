-- Who manages whom, and so who bears whose risk, depends on the parties of the users alone: a change of users that keeps these leaves it. Assumes nothing.
use Rattle.base.specs.Basics.{◌≡◌, refl, sym, ap, ap₂, ◌∙◌, cond, List, [], ◌∷◌, map, map-map, ℕ, T, eqb, pos}
use Rattle.base.specs.Lists.{all}
use Rattle.base.proofs.Tests.{all_by, all_map, by_case}
use Rattle.laws.proofs.Users.{known_map}
use Rattle.rules.specs.{Bearers.bearer, Bearers.as_borne, Book.PerArea, Book.Party, Book.manager_in, Book.User, Book.Trade, Book.find, Levels.shipper}
use Rattle.rules.specs.Questions.{manages, manager_valid, managers_are_valid}

module _ (g : User → User) (keeps : (u : User) → (g u).party ≡ u.party) where
  pub find-map : (us : List User) (id : ℕ) → (find (map g us) id).party ≡ (find us id).party
  unfolding find
  find-map [] id = refl
  find-map (u ∷ us) id =
      ap (λ (p : Party). (cond (eqb p.id id) (g u) (find (map g us) id)).party) (keeps u)
      ∙ by_case (eqb u.party.id id) (λ e. rw e (keeps u)) (λ e. rw e (find-map us id))

  -- who bears the risk of the user of an id
  pub bearer-map : (us : List User) (id area : ℕ) → bearer (find (map g us) id) area ≡ bearer (find us id) area
  unfolding bearer
  bearer-map us id area =
      ap (λ (p : Party). cond (eqb (manager_in p.managers area) 0) p.id (manager_in p.managers area)) (find-map us id)

  -- trades are borne as before
  pub as_borne_map : (us : List User) (t : Trade) → as_borne (map g us) t ≡ as_borne us t
  unfolding as_borne
  as_borne_map us t =
      let r = t.terms in
      ap₂
      (λ (x y : ℕ).
      record { terms = record { seller = x; buyer = y; area = r.area; kind = r.kind; day = r.day; notified = r.notified }; standing = t.standing })
      (bearer-map us r.seller r.area)
      (bearer-map us r.buyer r.area)

  manager_map : (version : ℕ) (us : List User) (u : User) (area : ℕ) → manager_valid version (map g us) (g u) area ≡ manager_valid version us u area
  unfolding manager_valid manages shipper
  manager_map version us u area =
      let m = manager_in u.party.managers area in
      rw (keeps u, known_map g keeps us m, find-map us m)

  -- managers are as valid as before
  pub groups_map : (version : ℕ) (us : List User) → T (all (managers_are_valid version us) us) → T (all (managers_are_valid version (map g us)) (map g us))
  unfolding managers_are_valid
  groups_map version us h =
      rw (all_map (managers_are_valid version (map g us)) g us)
      (all_by (managers_are_valid version us) (λ u. managers_are_valid version (map g us) (g u))
      (λ u k. rw (manager_map version us u 0, manager_map version us u 1, manager_map version us u 2) k)
      us h)

-- a user of a party, with nothing
bare : Party → User
bare p =
    let none : PerArea = record { pvb = pos 0; tvb = pos 0; avb = pos 0 } in
    record { party = p; physical = none; position = none; blocked = 0 }

-- users of the same parties bear the same trades
pub as_borne_same : (us vs : List User) → map (λ u. u.party) us ≡ map (λ u. u.party) vs → (t : Trade) → as_borne us t ≡ as_borne vs t
unfolding bare
as_borne_same us vs e t =
    let g : User → User = λ u. bare u.party in
    sym (as_borne_map g (λ u. refl) us t)
    ∙ ap (λ (ws : List User). as_borne ws t) (sym (map-map bare (λ (u : User). u.party) us) ∙ ap (map bare) e ∙ map-map bare (λ (u : User). u.party) vs)
    ∙ as_borne_map g (λ u. refl) vs t
