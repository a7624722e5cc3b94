-- What is known of each own sale of an accepted book as its risk is borne, and of its tiers. Assumes nothing.
use Rattle.base.specs.Basics.{◌≡◌, refl, sym, ◌∙◌, Bool, true, false, not, cond, ◌&&◌, List, ℕ, ◌≤◌, ◌<◌, arith, T, eqb, eqb→eq, leb→le, ltb→lt, T_not, length}
use Rattle.base.specs.Basics.{get_or}
use Rattle.base.proofs.{Fronts.all_at, Tests.and-false, Tests.and_i, Tests.and_l, Tests.and_r, Tests.all_by, Tests.all_map, Tests.eqb_of}
use Rattle.laws.proofs.{Managers.bearer-known, Positions.buyer_known, Positions.seller_known, Settle.area-lt, Users.ids_rise-map, Users.known_map}
use Rattle.laws.specs.Sound.{Sound}
use Rattle.rules.specs.{Bearers.as_borne, Questions.amounts_valid, Questions.codes_valid, Questions.ids_rise, Questions.known, Questions.trade_is_valid}
use Rattle.rules.specs.Book.{Book, User, Trade, bilateral_for_day}
use Rattle.base.specs.Lists.{all}
use Rattle.laws_sales.proofs.{Cover.as_notified, Kept.kept-all, Kept.kept_pass}
use Rattle.laws_sales.specs.{Borne.borne_book, Borne.borne_trade, Borne.borne_user, Borne.borne_valid, Borne.shut, Sales.own_sale, Sales.sales_of}

-- a sale of the user of an id, to another user
pub record Sale (us : List User) (id : ℕ) (s : Trade) : Type 0 where
  pub seller : s.terms.seller ≡ id
  pub buyer : T (known us s.terms.buyer)
  pub apart : s.terms.buyer ≡ id → ⊥
  pub area : s.terms.area < 3
  pub standing : s.standing ≤ 100000

-- the own sales pass the test
pub sales_own : (ts : List Trade) (id : ℕ) → T (all (own_sale id) (sales_of ts id))
sales_own ts id = kept_pass (own_sale id) ts

pub sales_valid : (us : List User) (ts : List Trade) (id : ℕ) → T (all (borne_valid us) ts) → T (all (borne_valid us) (sales_of ts id))
sales_valid us ts id v = kept-all (own_sale id) (borne_valid us) ts v

sale_of : (us : List User) (id : ℕ) (s : Trade) → T (own_sale id s) → T (borne_valid us s) → Sale us id s
unfolding own_sale borne_valid
sale_of us id s h v =
    let r = s.terms in
    let e = eqb→eq r.seller id (and_l (eqb r.seller id) (bilateral_for_day s) h) in
    let n : T (not (bilateral_for_day s && eqb r.seller r.buyer)) = search (and_l, and_r) in
    let l = leb→le s.standing r.notified (search (and_l, and_r)) in
    let m = leb→le r.notified 100000 (search (and_l, and_r)) in
    record {
      seller = e;
      buyer = search (and_l, and_r);
      apart = λ g.
          T_not (bilateral_for_day s && eqb r.seller r.buyer) n
          (and_i (bilateral_for_day s) (eqb r.seller r.buyer) (and_r (eqb r.seller id) (bilateral_for_day s) h) (eqb_of r.seller r.buyer (e ∙ sym g)));
      area = ltb→lt r.area 3 (search (and_l, and_r));
      standing = omega arith;
    }

-- the sale at a place
pub sale_at : (us : List User) (ts : List Trade) (id i : ℕ) (d : Trade) → T (all (borne_valid us) ts) → i < length (sales_of ts id) → Sale us id (get_or (sales_of ts id) i d)
sale_at us ts id i d v h =
    sale_of us id (get_or (sales_of ts id) i d)
    (all_at (own_sale id) (sales_of ts id) (sales_own ts id) i d h)
    (all_at (borne_valid us) (sales_of ts id) (sales_valid us ts id v) i d h)

-- ---- an accepted book as its risk is borne

module _ (b : Book) (s : Sound b) where
  borne_one : (t : Trade) → T (trade_is_valid b.users t) → T (borne_valid (borne_book b).users (borne_trade b.users t))
  unfolding borne_valid borne_trade shut as_borne borne_book borne_user bilateral_for_day trade_is_valid codes_valid amounts_valid
  borne_one t v =
      let us = b.users in
      let r = (as_borne us t).terms in
      let inside = area-lt us t v in
      let is_known : (n : ℕ) → T (known us n) → T (known (borne_book b).users n) = λ n k. rw (known_map (borne_user us) (λ u. refl) us n) k in
      and_i (known (borne_book b).users r.seller && known (borne_book b).users r.buyer) _
      (and_i (known (borne_book b).users r.seller) (known (borne_book b).users r.buyer)
      (is_known r.seller (bearer-known b s t.terms.seller t.terms.area inside (seller_known us t v)))
      (is_known r.buyer (bearer-known b s t.terms.buyer t.terms.area inside (buyer_known us t v))))
      (and_i (not ((eqb (cond (eqb r.seller r.buyer) 1 t.terms.kind) 0 && eqb t.terms.day 0) && eqb r.seller r.buyer)) _ (two (eqb r.seller r.buyer))
      (search (and_l, and_r, and_i)))
    where
      two : (c : Bool) → T (not ((eqb (cond c 1 t.terms.kind) 0 && eqb t.terms.day 0) && c))
      two true = tt
      two false = rw (and-false (eqb t.terms.kind 0 && eqb t.terms.day 0)) tt

  pub borne_valid_lem : T (all (borne_valid (borne_book b).users) (borne_book b).trades)
  unfolding borne_book
  borne_valid_lem =
      rw (all_map (borne_valid (borne_book b).users) (borne_trade b.users) b.trades)
      (all_by (trade_is_valid b.users) (λ t. borne_valid (borne_book b).users (borne_trade b.users t)) borne_one b.trades s.trades)

  pub borne_notified : T (all as_notified (borne_book b).trades)
  unfolding as_notified borne_valid
  borne_notified = all_by (borne_valid (borne_book b).users) as_notified (λ t k. search (and_l, and_r)) (borne_book b).trades borne_valid_lem

  pub borne_ids : T (ids_rise 0 (borne_book b).users)
  unfolding borne_book borne_user
  borne_ids = rw (ids_rise-map (borne_user b.users) (λ u. refl) 0 b.users) s.ids
