-- A book of a version without managers, 1 or 2: everybody bears its own risk, and what the rules read of users and trades is document 01's. Assumes nothing.
use Rattle.base.specs.Basics.{◌≡◌, refl, sym, ap, ap₂, subst, ◌∙◌, Bool, false, not, cond, ◌&&◌, ◌||◌, List, [], ◌∷◌, map, ℕ, zero, suc, ◌≤◌, ◌<◌, le_of_eq}
use Rattle.base.specs.Basics.{le_of_suc-le-suc, not-suc-le-zero, arith, T, eqb, ltb, ltb→lt, ℤ, pos, ◌+ℤ◌, +ℤ_idr, +ℤ_idl, length, get_or, length-map}
use Rattle.base.specs.Basics.{get_or-map, ext_get_or, eq-eqb, ne_eqb, eqb-true, map-id}
use Rattle.base.proofs.{Fronts.get_or_inside, Tests.and_l, Tests.and_r, Tests.eqb_comm, Tests.map_by, Tests.sum_ℤ_by, Tests.by_case}
use Rattle.base.specs.Sums.{sum_ℤ}
use Rattle.laws.proofs.{Managers.own_bearer, Positions.buyer_known, Positions.seller_known, Users.all-find, Users.known-id, Reduction.none_unless}
use Rattle.laws.specs.{Sound.Sound, Statements.own_holding}
use Rattle.rules.specs.{Areas.managers_in, Book.Book, Book.PerArea, Book.Trade, Book.User, Book.at, Book.find, Book.manager_in, Book.nobody}
use Rattle.rules.specs.{Bearers.as_borne, Bearers.bearer, Bearers.borne_sum, Levels.party_to, Levels.seller_of, Levels.sells}
use Rattle.rules.specs.Questions.{groups_valid, ids_rise, known, manager_valid, managers_are_valid, manages, parties_valid, trade_is_valid}
use Rattle.laws_sales.proofs.{Settled.ids_above, Sums.held_borne}
use Rattle.laws_sales.specs.Borne.{borne_book, borne_sums, borne_trade, borne_user, shut, OwnRisk}

-- ---- one user has an id

none_of : (h : User → ℤ) (us : List User) (low id : ℕ) → id ≤ low → T (ids_rise low us) → sum_ℤ (λ v. cond (eqb v.party.id id) (h v) (pos 0)) us ≡ pos 0
unfolding sum_ℤ ids_rise
none_of h [] low id l r = refl
none_of h (u ∷ us) low id l r =
    let lt : low < u.party.id = ltb→lt low u.party.id (and_l (ltb low u.party.id) (ids_rise u.party.id us) r) in
    let rest = none_of h us u.party.id id (omega arith) (and_r (ltb low u.party.id) (ids_rise u.party.id us) r) in
    ap₂ (λ (c : Bool) (z : ℤ). cond c (h u) (pos 0) +ℤ z) (ne_eqb u.party.id id (λ e. omega arith)) rest

pub one_of : (h : User → ℤ) (us : List User) (low i : ℕ) (d : User) → T (ids_rise low us) → i < length us
    → sum_ℤ (λ v. cond (eqb v.party.id (get_or us i d).party.id) (h v) (pos 0)) us ≡ h (get_or us i d)
unfolding sum_ℤ ids_rise
one_of h [] low i d r l = absurd (not-suc-le-zero l)
one_of h (u ∷ us) low zero d r l =
    let rest = none_of h us u.party.id u.party.id (le_of_eq refl) (and_r (ltb low u.party.id) (ids_rise u.party.id us) r) in
    ap₂ (λ (c : Bool) (z : ℤ). cond c (h u) (pos 0) +ℤ z) (eq-eqb u.party.id u.party.id refl) rest ∙ +ℤ_idr (h u)
one_of h (u ∷ us) low (suc i) d r l =
    let more = and_r (ltb low u.party.id) (ids_rise u.party.id us) r in
    let k = le_of_suc-le-suc l in
    let above = ids_above us u.party.id i d more k in
    ap₂ (λ (c : Bool) (z : ℤ). cond c (h u) (pos 0) +ℤ z) (ne_eqb u.party.id (get_or us i d).party.id (λ e. omega arith)) (one_of h us u.party.id i d more k)
    ∙ +ℤ_idl (h (get_or us i d))

-- ---- nobody has a manager

module _ (b : Book) (s : Sound b) (plain : managers_in b.header.version ≡ false) where
  -- the user's managers are 0
  none : (m : ℕ) (c : Bool) → T (eqb m 0 || (managers_in b.header.version && c)) → m ≡ 0
  none m c h = none_unless m false (subst (λ (x : Bool). T (eqb m 0 || (x && c))) plain h) tt

  no_manager : (u : User) → T (managers_are_valid b.header.version b.users u) → (area : ℕ) → manager_in u.party.managers area ≡ 0
  unfolding managers_are_valid manager_valid manager_in
  no_manager u h zero =
      none u.party.managers.pvb (manages b.users u.party.managers.pvb u 0) (and_l (manager_valid b.header.version b.users u 0) (manager_valid b.header.version b.users u 1 && manager_valid b.header.version b.users u 2) h)
  no_manager u h (suc zero) = none u.party.managers.tvb (manages b.users u.party.managers.tvb u 1) (search (and_l, and_r))
  no_manager u h (suc (suc area)) = none u.party.managers.avb (manages b.users u.party.managers.avb u 2) (search (and_l, and_r))

  -- so it bears its own risk
  own : (u : User) → T (managers_are_valid b.header.version b.users u) → (area : ℕ) → bearer u area ≡ u.party.id
  own u h area = own_bearer u area (no_manager u h area)

  -- and nobody else's
  sum_own : (amounts : User → PerArea) (i area : ℕ) → i < length b.users
      → borne_sum amounts b.users (get_or b.users i nobody).party.id area ≡ at (amounts (get_or b.users i nobody)) area
  unfolding borne_sum groups_valid
  sum_own amounts i area l =
      let id = (get_or b.users i nobody).party.id in
      sum_ℤ_by (managers_are_valid b.header.version b.users) {f = λ v. cond (eqb (bearer v area) id) (at (amounts v) area) (pos 0)} {g = λ v. cond (eqb v.party.id id) (at (amounts v) area) (pos 0)}
      (λ v h. ap (λ (n : ℕ). cond (eqb n id) (at (amounts v) area) (pos 0)) (own v h area)) b.users s.groups
      ∙ one_of (λ v. at (amounts v) area) b.users 0 i nobody s.ids l

  user_own : (i : ℕ) → i < length b.users → borne_user b.users (get_or b.users i nobody) ≡ get_or b.users i nobody
  unfolding borne_user borne_sums at
  user_own i l =
      let entry = sum_own (λ v. v.physical) i in
      let position = sum_own (λ v. v.position) i in
      rw (entry 0 l, entry 1 l, entry 2 l, position 0 l, position 1 l, position 2 l)

  users_own : map (borne_user b.users) b.users ≡ b.users
  users_own =
      let us = b.users in
      ext_get_or nobody (map (borne_user us) us) us (length-map us (borne_user us))
      (λ i l.
      let k : i < length us = omega (arith, length-map us (borne_user us)) in
      get_or_inside (map (borne_user us) us) i nobody (borne_user us nobody) l ∙ get_or-map (borne_user us) us i nobody ∙ user_own i k)

  -- the parties of a trade
  bearer_own : (id area : ℕ) → T (known b.users id) → bearer (find b.users id) area ≡ id
  unfolding groups_valid
  bearer_own id area k =
      own (find b.users id) (all-find (managers_are_valid b.header.version b.users) b.users id s.groups k) area ∙ known-id b.users id k

  borne_own : (t : Trade) → T (trade_is_valid b.users t) → as_borne b.users t ≡ t
  unfolding as_borne
  borne_own t v =
      let r = t.terms in
      ap₂ (λ (x y : ℕ). record { terms = record { seller = x; buyer = y; area = r.area; kind = r.kind; day = r.day; notified = r.notified }; standing = t.standing })
      (bearer_own r.seller r.area (seller_known b.users t v)) (bearer_own r.buyer r.area (buyer_known b.users t v))

  -- which differ
  differ : (t : Trade) → T (trade_is_valid b.users t) → eqb t.terms.seller t.terms.buyer ≡ false
  unfolding trade_is_valid parties_valid
  differ t v =
      let h : T (not (eqb t.terms.seller t.terms.buyer)) = search (and_l, and_r) in
      by_case (eqb t.terms.seller t.terms.buyer) (λ e. absurd (rw e at h)) (λ e. e)

  trade_own : (t : Trade) → T (trade_is_valid b.users t) → borne_trade b.users t ≡ t
  unfolding borne_trade shut
  trade_own t v =
      let r = t.terms in
      ap shut (borne_own t v)
      ∙ ap (λ (c : Bool). record { terms = record { seller = r.seller; buyer = r.buyer; area = r.area; kind = cond c 1 r.kind; day = r.day; notified = r.notified }; standing = t.standing })
      (differ t v)

  trades_own : map (borne_trade b.users) b.trades ≡ b.trades
  trades_own = map_by (trade_is_valid b.users) (borne_trade b.users) (λ t. t) trade_own b.trades s.trades ∙ map-id b.trades

  book_own : borne_book b ≡ b
  unfolding borne_book
  book_own = ap₂ (λ (us : List User) (ts : List Trade). record { header = b.header; users = us; trades = ts }) users_own trades_own

  pub own_risk : OwnRisk b
  unfolding sells party_to seller_of
  own_risk = record {
    book = book_own;
    held = λ i l area. held_borne b (get_or b.users i nobody) area ∙ ap₂ (λ (n : Book) (u : User). own_holding n u area) book_own (user_own i l);
    sale = λ u t v. rw (borne_own t v) (apart u t v);
    party = λ u t v. rw (borne_own t v) refl;
    seller = λ t v. rw (borne_own t v) refl;
  }
    where
      apart : (u : User) (t : Trade) → T (trade_is_valid b.users t) → (eqb t.terms.seller u.party.id && not (eqb t.terms.buyer u.party.id)) ≡ eqb t.terms.seller u.party.id
      apart u t v =
          let seller = t.terms.seller in
          by_case (eqb seller u.party.id)
          (λ e. rw e (ap not (ap (eqb t.terms.buyer) (sym (eqb-true seller u.party.id e)) ∙ eqb_comm t.terms.buyer seller ∙ differ t v)))
          (λ e. rw e)
