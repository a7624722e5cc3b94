-- What a party may see, by the ids of users and managers: its own, and what it manages. Assumes nothing.
use Rattle.base.specs.Basics.{◌≡◌, ◌∙◌, ap, refl, sym, Bool, true, false, cond, ◌||◌, List, ℕ, ◌<◌, arith, T, eqb, ne_eqb, eqb-true}
use Rattle.base.specs.Lists.{any}
use Rattle.laws.proofs.Users.{known-id}
use Rattle.rules.specs.{Areas.areas, Bearers.as_borne, Bearers.bearer, Book.Trade, Book.User, Book.find, Book.manager_in, Questions.known}
use Rattle.views.specs.{Claim.ViewsClaim, Claim.manages, Views.sees_trade, Views.sees_user}
use Rattle.base.proofs.Tests.{by_case}

-- ---- tests

same : (x : Bool) → (x || x) ≡ (x || false)
same true = refl
same false = refl

three_or : (x a b c d e f : Bool) → (x || a) ≡ (x || d) → (x || b) ≡ (x || e) → (x || c) ≡ (x || f) → (x || (a || (b || (c || false)))) ≡ (x || (d || (e || (f || false))))
three_or true a b c d e f p q r = refl
three_or false a b c d e f p q r = rw (p, q, r) refl

two_or : (x y a b c d : Bool) → (x || a) ≡ (x || c) → (y || b) ≡ (y || d) → ((x || y) || (a || b)) ≡ ((x || y) || (c || d))
two_or true y a b c d p q = refl
two_or false true a b c d p q = refl
two_or false false a b c d p q = rw (p, q) refl

-- ---- who bears a user's risk is its manager, or with none the user

module _ (party : ℕ) (above : 0 < party) where
  bears : (id manager : ℕ) → (eqb id party || eqb (cond (eqb manager 0) id manager) party) ≡ (eqb id party || eqb manager party)
  bears id manager =
      by_case (eqb manager 0)
      (λ e. let z = eqb-true manager 0 e in
      rw e (same (eqb id party) ∙ ap (λ (x : Bool). eqb id party || x) (sym (ne_eqb manager party (λ h. omega (arith, above, z, h))))))
      (λ e. rw e)

  sees_user_lem : (u : User) → sees_user party u ≡ (eqb u.party.id party || any (manages party u) areas)
  unfolding sees_user bearer manages any areas
  sees_user_lem u =
      let id = u.party.id in
      let m = manager_in u.party.managers in
      three_or (eqb id party)
      (eqb (cond (eqb (m 0) 0) id (m 0)) party) (eqb (cond (eqb (m 1) 0) id (m 1)) party) (eqb (cond (eqb (m 2) 0) id (m 2)) party)
      (eqb (m 0) party) (eqb (m 1) party) (eqb (m 2) party)
      (bears id (m 0)) (bears id (m 1)) (bears id (m 2))

  -- of a user that is found
  bears_found : (us : List User) (id area : ℕ) → T (known us id)
      → (eqb id party || eqb (bearer (find us id) area) party) ≡ (eqb id party || manages party (find us id) area)
  unfolding bearer manages
  bears_found us id area k =
      let m = manager_in (find us id).party.managers area in
      ap (λ (i : ℕ). eqb id party || eqb (cond (eqb m 0) i m) party) (known-id us id k) ∙ bears id m

  sees_trade_lem : (us : List User) (t : Trade) → T (known us t.terms.seller) → T (known us t.terms.buyer)
      → sees_trade us party t
      ≡ ((eqb t.terms.seller party || eqb t.terms.buyer party)
      || (manages party (find us t.terms.seller) t.terms.area || manages party (find us t.terms.buyer) t.terms.area))
  unfolding sees_trade as_borne
  sees_trade_lem us t ks kb =
      let r = t.terms in
      two_or (eqb r.seller party) (eqb r.buyer party)
      (eqb (bearer (find us r.seller) r.area) party) (eqb (bearer (find us r.buyer) r.area) party)
      (manages party (find us r.seller) r.area) (manages party (find us r.buyer) r.area)
      (bears_found us r.seller r.area ks) (bears_found us r.buyer r.area kb)

pub views_claim : ViewsClaim
views_claim party above = record { users = sees_user_lem party above; trades = sees_trade_lem party above }
