-- Where trades change, and positions are settled with them, the book as its risk is borne changes alike: the sum of who bears a party's risk moves as the party's position does. Assumes nothing.
use Rattle.base.specs.Basics.{◌≡◌, refl, sym, ap, ap₂, fun_ext, ◌∙◌, Bool, cond, List, [], ◌∷◌, map, map-map, ℕ, ◌<◌, arith, T, eqb, ℤ, pos, neg_ℤ, ◌+ℤ◌, +ℤ_idr}
use Rattle.base.specs.Basics.{eqb-true}
use Rattle.base.specs.Lists.{all}
use Rattle.base.proofs.{Sums.sum_ℤ-map, Sums.sum_ℤ_ext, Tests.and_l, Tests.and_r, Tests.by_test, Tests.eqb_comm, Tests.by_case}
use Rattle.laws.proofs.{Areas.at-add, Bearers.as_borne_same, Bearers.bearer-map}
use Rattle.laws.proofs.{Positions.buyer_known, Positions.seller_known, Users.change_sum, Users.ids_rise-map, Users.known_map, Users.trades_map, Settle.area-lt}
use Rattle.laws.specs.Sound.{Sound}
use Rattle.rules.specs.{Bearers.as_borne, Bearers.bearer, Bearers.borne_sum, Book.PerArea, Book.at, Book.Book, Book.User, Book.Trade, Book.find}
use Rattle.rules.specs.Changes.{add, change, moved}
use Rattle.rules.specs.{Questions.known, Questions.ids_rise, Questions.trade_is_valid, Reduction.lost, Reduction.settle, Reduction.settle_one, Reduction.with_trades}
use Rattle.laws_sales.proofs.{Sums.at_sums, Settled.settle_one_parties, Settled.settle_one_rise, Settled.settle_parties}
use Rattle.laws_sales.specs.Borne.{borne_book, borne_sums, borne_trade, borne_user, shut}

-- a user moves in an area: the sum there of who bears its risk moves, all others stay
borne_moved : (us : List User) (id who area i : ℕ) (z : ℤ) → area < 3 → i < 3 → T (ids_rise 0 us) → T (known us id)
    → borne_sum (λ v. v.position) (change id (moved area z) us) who i
    ≡ borne_sum (λ v. v.position) us who i +ℤ cond (eqb (bearer (find us id) area) who) (cond (eqb area i) z (pos 0)) (pos 0)
unfolding borne_sum bearer moved
borne_moved us id who area i z l m r k =
    change_sum (λ v. cond (eqb (bearer v i) who) (at v.position i) (pos 0)) (cond (eqb (bearer (find us id) area) who) (cond (eqb area i) z (pos 0)) (pos 0)) (moved area z) id us 0 r k
    (here (find us id))
  where
    here : (v : User) → cond (eqb (bearer v i) who) (at (add v.position area z) i) (pos 0)
        ≡ cond (eqb (bearer v i) who) (at v.position i) (pos 0) +ℤ cond (eqb (bearer v area) who) (cond (eqb area i) z (pos 0)) (pos 0)
    here v =
        let other = eqb (bearer v area) who in
        ap (λ (x : ℤ). cond (eqb (bearer v i) who) x (pos 0)) (at-add v.position area z i l m)
        ∙ by_case (eqb (bearer v i) who)
        (λ w. by_case (eqb area i) (λ e. rw (eqb-true area i e, w)) (λ e. by_case other (λ o. rw (e, w, o)) (λ o. rw (e, w, o))))
        (λ w. by_case (eqb area i) (λ e. rw (eqb-true area i e, w)) (λ e. by_case other (λ o. rw (e, w, o)) (λ o. rw (e, w, o))))

-- ---- one user's position moves

per_area : (v w : PerArea) → ((i : ℕ) → i < 3 → at v i ≡ at w i) → v ≡ w
unfolding at
per_area v w e =
    let p = e 0 (omega arith) in
    let t = e 1 (omega arith) in
    let a = e 2 (omega arith) in
    λ i. record { pvb = p i; tvb = t i; avb = a i }

module _ (us : List User) (id area : ℕ) (z : ℤ) (inside : area < 3) (rise : T (ids_rise 0 us)) (is_known : T (known us id)) where
  abbrev after : List User
  after = change id (moved area z) us

  abbrev owner : ℕ
  owner = bearer (find us id) area

  -- the sums of positions of a user
  positions_moved : (who : ℕ) → borne_sums (λ v. v.position) after who ≡ cond (eqb who owner) (add (borne_sums (λ v. v.position) us who) area z) (borne_sums (λ v. v.position) us who)
  positions_moved who =
      per_area (borne_sums (λ v. v.position) after who) (cond (eqb who owner) (add (borne_sums (λ v. v.position) us who) area z) (borne_sums (λ v. v.position) us who))
      (λ i l.
      at_sums (λ v. v.position) after who i
      ∙ borne_moved us id who area i z inside l rise is_known
      ∙ ap (λ (x : ℤ). x +ℤ cond (eqb owner who) (cond (eqb area i) z (pos 0)) (pos 0)) (sym (at_sums (λ v. v.position) us who i))
      ∙ ap (λ (c : Bool). at (borne_sums (λ v. v.position) us who) i +ℤ cond c (cond (eqb area i) z (pos 0)) (pos 0)) (eqb_comm owner who)
      ∙ (let v = borne_sums (λ v. v.position) us who in
      by_case (eqb who owner) (λ e. rw e (sym (at-add v area z i inside l))) (λ e. rw e (+ℤ_idr (at v i)))))

  -- those of entries stay
  entries_stay : (who : ℕ) → borne_sums (λ v. v.physical) after who ≡ borne_sums (λ v. v.physical) us who
  unfolding change borne_sums borne_sum moved bearer
  entries_stay who =
      let one : (i : ℕ) → borne_sum (λ v. v.physical) after who i ≡ borne_sum (λ v. v.physical) us who i
      = λ i.
      sum_ℤ-map (λ v. cond (eqb (bearer v i) who) (at v.physical i) (pos 0)) (λ u. cond (eqb u.party.id id) (moved area z u) u) us
      ∙ sum_ℤ_ext (λ u. cond (eqb (bearer (cond (eqb u.party.id id) (moved area z u) u) i) who) (at (cond (eqb u.party.id id) (moved area z u) u).physical i) (pos 0))
      (λ u. cond (eqb (bearer u i) who) (at u.physical i) (pos 0))
      (λ u. by_test (λ (v : User). cond (eqb (bearer v i) who) (at v.physical i) (pos 0) ≡ cond (eqb (bearer u i) who) (at u.physical i) (pos 0)) (eqb u.party.id id) (λ t. refl) (λ t. refl)) us in
      rw (one 0, one 1, one 2)

  -- the users as they are borne: the one who bears the risk moves
  borne_change : map (borne_user after) after ≡ change owner (moved area z) (map (borne_user us) us)
  unfolding change borne_user moved
  borne_change =
      map-map (borne_user after) (λ u. cond (eqb u.party.id id) (moved area z u) u) us
      ∙ ap (λ (f : User → User). map f us) (fun_ext one)
      ∙ sym (map-map (λ u. cond (eqb u.party.id owner) (moved area z u) u) (borne_user us) us)
    where
      one : (u : User) → borne_user after (cond (eqb u.party.id id) (moved area z u) u) ≡ cond (eqb u.party.id owner) (moved area z (borne_user us u)) (borne_user us u)
      one u =
          by_test (λ (v : User). borne_user after v ≡ borne_user after u) (eqb u.party.id id) (λ t. refl) (λ t. refl)
          ∙ ap₂ (λ (p e : PerArea). record { party = u.party; physical = e; position = p; blocked = u.blocked }) (positions_moved u.party.id) (entries_stay u.party.id)
          ∙ by_case (eqb u.party.id owner) (λ e. rw e) (λ e. rw e)

-- ---- trades change

change_keeps : (id area : ℕ) (z : ℤ) (u : User) → (cond (eqb u.party.id id) (moved area z u) u).party ≡ u.party
unfolding moved
change_keeps id area z u = by_test (λ (v : User). v.party ≡ u.party) (eqb u.party.id id) (λ t. refl) (λ t. refl)

-- one trade
module _ (us : List User) (t n : Trade) (rise : T (ids_rise 0 us)) (valid : T (trade_is_valid us t)) where
  abbrev risen : List User
  risen = change t.terms.seller (moved t.terms.area (lost t n)) us

  risen_rise : T (ids_rise 0 risen)
  unfolding change
  risen_rise = rw (ids_rise-map (λ u. cond (eqb u.party.id t.terms.seller) (moved t.terms.area (lost t n) u) u) (change_keeps t.terms.seller t.terms.area (lost t n)) 0 us) rise

  risen-known : T (known risen t.terms.buyer)
  unfolding change
  risen-known =
      rw (known_map (λ u. cond (eqb u.party.id t.terms.seller) (moved t.terms.area (lost t n) u) u) (change_keeps t.terms.seller t.terms.area (lost t n)) us t.terms.buyer)
      (buyer_known us t valid)

  risen-bearer : bearer (find risen t.terms.buyer) t.terms.area ≡ bearer (find us t.terms.buyer) t.terms.area
  unfolding change
  risen-bearer =
      bearer-map (λ u. cond (eqb u.party.id t.terms.seller) (moved t.terms.area (lost t n) u) u) (change_keeps t.terms.seller t.terms.area (lost t n)) us t.terms.buyer t.terms.area

  borne_settle_one : map (borne_user (settle_one t n us)) (settle_one t n us) ≡ settle_one (borne_trade us t) (borne_trade us n) (map (borne_user us) us)
  unfolding settle_one borne_trade shut as_borne lost
  borne_settle_one =
      let area = t.terms.area in
      let z = lost t n in
      borne_change risen t.terms.buyer area (neg_ℤ z) (area-lt us t valid) risen_rise risen-known
      ∙ ap₂ (λ (id : ℕ) (vs : List User). change id (moved area (neg_ℤ z)) vs) risen-bearer (borne_change us t.terms.seller area z (area-lt us t valid) rise (seller_known us t valid))

  -- trades that are valid stay so
  settled_valid : (ts : List Trade) → T (all (trade_is_valid us) ts) → T (all (trade_is_valid (settle_one t n us)) ts)
  unfolding settle_one change
  settled_valid ts v =
      let area = t.terms.area in
      let z = lost t n in
      trades_map (λ u. cond (eqb u.party.id t.terms.buyer) (moved area (neg_ℤ z) u) u) (change_keeps t.terms.buyer area (neg_ℤ z)) risen ts
      (trades_map (λ u. cond (eqb u.party.id t.terms.seller) (moved area z u) u) (change_keeps t.terms.seller area z) us ts v)

-- users who are the same parties bear the same trades
borne_trades_same : (us vs : List User) → map (λ u. u.party) us ≡ map (λ u. u.party) vs → borne_trade us ≡ borne_trade vs
unfolding borne_trade
borne_trades_same us vs e = fun_ext (λ (t : Trade). ap shut (as_borne_same us vs e t))

-- all trades
pub borne_settle : (ts ns : List Trade) (us : List User) → T (ids_rise 0 us) → T (all (trade_is_valid us) ts)
    → map (borne_user (settle ts ns us)) (settle ts ns us) ≡ settle (map (borne_trade us) ts) (map (borne_trade us) ns) (map (borne_user us) us)
unfolding settle all
borne_settle [] ns us r v = refl
borne_settle (t ∷ ts) [] us r v = refl
borne_settle (t ∷ ts) (n ∷ ns) us r v =
    let one = and_l (trade_is_valid us t) (all (trade_is_valid us) ts) v in
    let us' = settle_one t n us in
    borne_settle ts ns us' (rw (settle_one_rise t n 0 us) r) (settled_valid us t n r one ts (and_r (trade_is_valid us t) (all (trade_is_valid us) ts) v))
    ∙ ap₂ (λ (f : Trade → Trade) (vs : List User). settle (map f ts) (map f ns) vs) (borne_trades_same us' us (settle_one_parties t n us)) (borne_settle_one us t n r one)

-- the book
pub borne_with : (b : Book) (ns : List Trade) → Sound b → borne_book (with_trades b ns) ≡ with_trades (borne_book b) (map (borne_trade b.users) ns)
unfolding borne_book with_trades
borne_with b ns s =
    ap₂ (λ (us : List User) (f : Trade → Trade). record { header = b.header; users = us; trades = map f ns })
    (borne_settle b.trades ns b.users s.ids s.trades)
    (borne_trades_same (settle b.trades ns b.users) b.users (settle_parties b.trades ns b.users))
