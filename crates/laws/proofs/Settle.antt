-- A book whose trades stand anew. Its positions are settled one trade after another: the seller's rises and the buyer's falls by what stood less what stands.
-- That is the same as to compute each position anew from the new trades, whether a trade is lowered or raised. Assumes nothing.
use Rattle.base.specs.Basics.{◌≡◌, refl, sym, ap, subst, ◌∙◌, Bool, true, false, not, cond, ◌&&◌, List, [], ◌∷◌, map, map-map, ℕ, suc, ◌+◌, ◌<◌, arith, T, eqb}
use Rattle.base.specs.Basics.{ltb→lt, ℤ, pos, neg_ℤ, ◌+ℤ◌, +ℤ_idr, length, length-map, map-id, T_not, not_T}
use Rattle.base.proofs.Linear.{parts_add, eq_parts, pos_part-neg, neg_part-neg, pos_part-pos, neg_part-pos}
use Rattle.base.proofs.Tests.{and_l, and_r, and_i, by_test, map_by, eqb_comm, by_case, all_yes, all_map, all_by}
use Rattle.base.specs.{Parts.pos_part, Parts.neg_part, Sums.sum, Sums.sum_ℤ, Lists.all}
use Rattle.laws.proofs.{Areas.at-add, Bearers.groups_map, Moved.Moved, Trades.parts_lost}
use Rattle.laws.proofs.{Positions.parts_defined, Positions.position_is, Positions.eqb_ℤ_refl, Users.map_sum, Users.trades_map, Users.ids_rise-map}
use Rattle.laws.specs.Sound.{Sound}
use Rattle.laws.specs.{Books.anew, Books.repositioned, Trades.Framed, Trades.Pairwise, Trades.ended, Trades.then, Trades.left_mwh, Trades.left_worth}
use Rattle.rules.specs.Book.{at, User, Trade, Book, sold, bought, defined_position, dealt, bilateral_for_day}
use Rattle.rules.specs.{Changes.change, Changes.moved, Reduction.lost, Reduction.settle_one, Reduction.settle, Reduction.with_trades}
use Rattle.rules.specs.Questions.{counts_are_valid, groups_valid, user_is_valid, trade_is_valid, positions_are_valid, codes_valid, guarantees_valid, position_valid, version_is_valid}

-- ---- one user's part of it

of_id : ℕ → (User → User) → User → User
of_id id f u = cond (eqb u.party.id id) (f u) u

settled_one : Trade → Trade → User → User
settled_one t n u = of_id t.terms.buyer (moved t.terms.area (neg_ℤ (lost t n))) (of_id t.terms.seller (moved t.terms.area (lost t n)) u)

settle_user : List Trade → List Trade → User → User
settle_user [] ns u = u
settle_user (t ∷ ts) [] u = u
settle_user (t ∷ ts) (n ∷ ns) u = settle_user ts ns (settled_one t n u)

settle-map : (ts ns : List Trade) (us : List User) → settle ts ns us ≡ map (settle_user ts ns) us
unfolding settle settle_user settle_one change of_id settled_one
settle-map [] ns us = sym (map-id us)
settle-map (t ∷ ts) [] us = sym (map-id us)
settle-map (t ∷ ts) (n ∷ ns) us =
    settle-map ts ns (settle_one t n us)
    ∙ ap (map (settle_user ts ns)) (map-map (of_id t.terms.buyer (moved t.terms.area (neg_ℤ (lost t n)))) (of_id t.terms.seller (moved t.terms.area (lost t n))) us)
    ∙ map-map (settle_user ts ns) (settled_one t n) us

-- ---- all but the position stays

record Same (v w : User) : Type 0 where
  party : w.party ≡ v.party
  physical : w.physical ≡ v.physical
  blocked : w.blocked ≡ v.blocked

stays : (v : User) → Same v v
stays v = record { party = refl; physical = refl; blocked = refl }

same_trans : (u v w : User) → Same u v → Same v w → Same u w
same_trans u v w p q =
    record { party = q.party ∙ p.party; physical = q.physical ∙ p.physical; blocked = q.blocked ∙ p.blocked }

same_at : (id r : ℕ) (z : ℤ) (v : User) → Same v (of_id id (moved r z) v)
unfolding of_id moved
same_at id r z v =
    by_test (λ (w : User). Same v w) (eqb v.party.id id)
    (λ t. record { party = refl; physical = refl; blocked = refl }) (λ t. stays v)

moved_at : (id r : ℕ) (z : ℤ) (v : User) (a : ℕ) → r < 3 → a < 3
    → at (of_id id (moved r z) v).position a ≡ at v.position a +ℤ cond (eqb v.party.id id) (cond (eqb r a) z (pos 0)) (pos 0)
unfolding of_id moved
moved_at id r z v a h k =
    by_case (eqb v.party.id id) (λ e. rw e (at-add v.position r z a h k)) (λ e. rw e (sym (+ℤ_idr (at v.position a))))

settled_one_same : (t n : Trade) (v : User) → Same v (settled_one t n v)
unfolding settled_one
settled_one_same t n v =
    let w = of_id t.terms.seller (moved t.terms.area (lost t n)) v in
    same_trans v w (settled_one t n v) (same_at t.terms.seller t.terms.area (lost t n) v) (same_at t.terms.buyer t.terms.area (neg_ℤ (lost t n)) w)

-- ---- one user, one trade: an amount under two tests, as what stood and what stands

of_two : (p q : Bool) (s r : ℕ) (z : ℤ) → pos_part z + r ≡ neg_part z + s
    → pos_part (cond p (cond q z (pos 0)) (pos 0)) + cond p (cond q r 0) 0 ≡ neg_part (cond p (cond q z (pos 0)) (pos 0)) + cond p (cond q s 0) 0
of_two true true s r z e = e
of_two true false s r z e = omega (arith, pos_part-pos 0, neg_part-pos 0)
of_two false q s r z e = omega (arith, pos_part-pos 0, neg_part-pos 0)

parts_settled_one : (t n : Trade) (v : User) (a : ℕ) → t.terms.area < 3 → a < 3
    → pos_part (at (settled_one t n v).position a) + (neg_part (at v.position a) + cond (eqb v.party.id t.terms.buyer) (cond (eqb t.terms.area a) t.standing 0) 0 + cond (eqb v.party.id t.terms.seller) (cond (eqb t.terms.area a) n.standing 0) 0)
    ≡ neg_part (at (settled_one t n v).position a) + (pos_part (at v.position a) + cond (eqb v.party.id t.terms.buyer) (cond (eqb t.terms.area a) n.standing 0) 0 + cond (eqb v.party.id t.terms.seller) (cond (eqb t.terms.area a) t.standing 0) 0)
unfolding settled_one
parts_settled_one t n v a h k =
    let z = lost t n in
    let w = of_id t.terms.seller (moved t.terms.area z) v in
    let x = cond (eqb v.party.id t.terms.seller) (cond (eqb t.terms.area a) z (pos 0)) (pos 0) in
    let y = cond (eqb v.party.id t.terms.buyer) (cond (eqb t.terms.area a) (neg_ℤ z) (pos 0)) (pos 0) in
    let e : w.party.id ≡ v.party.id = ap (λ r. r.id) (same_at t.terms.seller t.terms.area z v).party in
    let first = moved_at t.terms.seller t.terms.area z v a h k in
    let second : at (settled_one t n v).position a ≡ at w.position a +ℤ y
    = moved_at t.terms.buyer t.terms.area (neg_ℤ z) w a h k ∙ ap (λ (m : ℕ). at w.position a +ℤ cond (eqb m t.terms.buyer) (cond (eqb t.terms.area a) (neg_ℤ z) (pos 0)) (pos 0)) e in
    omega (
      arith,
      ap pos_part second,
      ap neg_part second,
      ap pos_part first,
      ap neg_part first,
      parts_add (at w.position a) y,
      parts_add (at v.position a) x,
      of_two (eqb v.party.id t.terms.seller) (eqb t.terms.area a) t.standing n.standing z (omega (arith, parts_lost t n)),
      of_two (eqb v.party.id t.terms.buyer) (eqb t.terms.area a) n.standing t.standing (neg_ℤ z) (omega (arith, parts_lost t n, pos_part-neg z, neg_part-neg z)),
    )

-- a trade that changes is for the day: both amounts with the test of the day or both without
by_day : (p d q : Bool) (s r : ℕ) → (T (not d) → r ≡ s)
    → cond p (cond (q && d) s 0) 0 + cond p (cond q r 0) 0 ≡ cond p (cond (q && d) r 0) 0 + cond p (cond q s 0) 0
by_day true true true s r h = omega arith
by_day true true false s r h = omega arith
by_day true false true s r h = omega (arith, h tt)
by_day true false false s r h = omega arith
by_day false d q s r h = omega arith

same_off_day : {t n : Trade} → Framed t n → T (not (eqb t.terms.day 0)) → n.standing ≡ t.standing
unfolding bilateral_for_day
same_off_day {t} {n} p h =
    p.other (not_T (bilateral_for_day t) (λ k. T_not (eqb t.terms.day 0) h (and_r (eqb t.terms.kind 0) (eqb t.terms.day 0) k)))

settled_same : (ts ns : List Trade) (v : User) → Same v (settle_user ts ns v)
unfolding settle_user
settled_same [] ns v = stays v
settled_same (t ∷ ts) [] v = stays v
settled_same (t ∷ ts) (n ∷ ns) v = same_trans v (settled_one t n v) (settle_user ts ns (settled_one t n v)) (settled_one_same t n v) (settled_same ts ns (settled_one t n v))

-- a valid trade is of an area
pub area-lt : (us : List User) (t : Trade) → T (trade_is_valid us t) → t.terms.area < 3
unfolding trade_is_valid codes_valid
area-lt us t h = ltb→lt t.terms.area 3 (search (and_l, and_r))

parts_settled : (us : List User) {ts ns : List Trade} (v : User) (a : ℕ) → a < 3 → Pairwise Framed ts ns → T (all (trade_is_valid us) ts)
    → pos_part (at (settle_user ts ns v).position a) + (neg_part (at v.position a) + bought ts v.party.id a 0 + sold ns v.party.id a 0)
    ≡ neg_part (at (settle_user ts ns v).position a) + (pos_part (at v.position a) + bought ns v.party.id a 0 + sold ts v.party.id a 0)
unfolding settle_user bought sold dealt sum all
parts_settled us v a k ended o = omega arith
parts_settled us v a k (then {t = t} {n = n} {ts = ts} {ns = ns} p ps) o =
    let w = settled_one t n v in
    let e : w.party.id ≡ v.party.id = ap (λ r. r.id) (settled_one_same t n v).party in
    let rest = parts_settled us w a k ps (and_r (trade_is_valid us t) (all (trade_is_valid us) ts) o) in
    let this = parts_settled_one t n v a (area-lt us t (and_l (trade_is_valid us t) (all (trade_is_valid us) ts) o)) k in
    let b1 : bought ts w.party.id a 0 ≡ bought ts v.party.id a 0 = ap (λ (m : ℕ). bought ts m a 0) e in
    let b2 : bought ns w.party.id a 0 ≡ bought ns v.party.id a 0 = ap (λ (m : ℕ). bought ns m a 0) e in
    let s1 : sold ts w.party.id a 0 ≡ sold ts v.party.id a 0 = ap (λ (m : ℕ). sold ts m a 0) e in
    let s2 : sold ns w.party.id a 0 ≡ sold ns v.party.id a 0 = ap (λ (m : ℕ). sold ns m a 0) e in
    let off = same_off_day p in
    let sell = by_day (eqb v.party.id t.terms.seller) (eqb t.terms.day 0) (eqb t.terms.area a) t.standing n.standing off in
    let buy = by_day (eqb v.party.id t.terms.buyer) (eqb t.terms.day 0) (eqb t.terms.area a) t.standing n.standing off in
    let c1 : cond (eqb t.terms.seller v.party.id) (cond (eqb t.terms.area a && eqb t.terms.day 0) t.standing 0) 0 ≡ cond (eqb v.party.id t.terms.seller) (cond (eqb t.terms.area a && eqb t.terms.day 0) t.standing 0) 0
    = ap (λ (c : Bool). cond c (cond (eqb t.terms.area a && eqb t.terms.day 0) t.standing 0) 0) (eqb_comm t.terms.seller v.party.id) in
    let c2 : cond (eqb t.terms.buyer v.party.id) (cond (eqb t.terms.area a && eqb t.terms.day 0) t.standing 0) 0 ≡ cond (eqb v.party.id t.terms.buyer) (cond (eqb t.terms.area a && eqb t.terms.day 0) t.standing 0) 0
    = ap (λ (c : Bool). cond c (cond (eqb t.terms.area a && eqb t.terms.day 0) t.standing 0) 0) (eqb_comm t.terms.buyer v.party.id) in
    let d1 : cond (eqb n.terms.seller v.party.id) (cond (eqb n.terms.area a && eqb n.terms.day 0) n.standing 0) 0 ≡ cond (eqb v.party.id t.terms.seller) (cond (eqb t.terms.area a && eqb t.terms.day 0) n.standing 0) 0
    = rw p.terms (ap (λ (c : Bool). cond c (cond (eqb t.terms.area a && eqb t.terms.day 0) n.standing 0) 0) (eqb_comm t.terms.seller v.party.id)) in
    let d2 : cond (eqb n.terms.buyer v.party.id) (cond (eqb n.terms.area a && eqb n.terms.day 0) n.standing 0) 0 ≡ cond (eqb v.party.id t.terms.buyer) (cond (eqb t.terms.area a && eqb t.terms.day 0) n.standing 0) 0
    = rw p.terms (ap (λ (c : Bool). cond c (cond (eqb t.terms.area a && eqb t.terms.day 0) n.standing 0) 0) (eqb_comm t.terms.buyer v.party.id)) in
    omega (arith, rest, this, b1, b2, s1, s2, sell, buy, c1, c2, d1, d2)

settled_position : (us : List User) {ts ns : List Trade} (v : User) (a : ℕ) → a < 3 → Pairwise Framed ts ns → T (all (trade_is_valid us) ts)
    → T (positions_are_valid ts v) → at (settle_user ts ns v).position a ≡ defined_position ns v a
settled_position us {ts} {ns} v a k h o p =
    let e = position_is ts v a k p in
    eq_parts (at (settle_user ts ns v).position a) (defined_position ns v a)
    (omega (arith, parts_settled us v a k h o, ap pos_part e, ap neg_part e, parts_defined ts v a, parts_defined ns v a))

settled_is : (us : List User) {ts ns : List Trade} (v : User) → Pairwise Framed ts ns → T (all (trade_is_valid us) ts)
    → T (positions_are_valid ts v) → settle_user ts ns v ≡ repositioned ns v
unfolding repositioned at
settled_is us {ts} {ns} v h o p =
    let s = settled_same ts ns v in
    let h0 = settled_position us v 0 (omega arith) h o p in
    let h1 = settled_position us v 1 (omega arith) h o p in
    let h2 = settled_position us v 2 (omega arith) h o p in
    λ i. record {
      party = s.party i;
      physical = s.physical i;
      position = record { pvb = h0 i; tvb = h1 i; avb = h2 i };
      blocked = s.blocked i;
    }

-- Trade by trade or computed anew: the same users.
pub settle_is : (us : List User) {ts ns : List Trade} → Pairwise Framed ts ns → T (all (trade_is_valid us) ts) → T (all (positions_are_valid ts) us)
    → settle ts ns us ≡ map (repositioned ns) us
settle_is us {ts} {ns} h o p =
    settle-map ts ns us ∙ map_by (positions_are_valid ts) (settle_user ts ns) (repositioned ns) (λ v k. settled_is us v h o k) us p

pub retraded_anew : (b : Book) (ns : List Trade) → Sound b → Pairwise Framed b.trades ns → with_trades b ns ≡ anew b ns
unfolding with_trades anew
retraded_anew b ns s h =
    ap (λ (us : List User). record { header = b.header; users = us; trades = ns }) (settle_is b.users h s.trades s.positions)

-- ---- the book

repositioned_ok : (ts : List Trade) (u : User) → T (positions_are_valid ts (repositioned ts u))
unfolding positions_are_valid position_valid repositioned at defined_position
repositioned_ok ts u = search (and_i, eqb_ℤ_refl)

repositioned_user : (ts : List Trade) (u : User) → T (user_is_valid u) → T (user_is_valid (repositioned ts u))
unfolding user_is_valid guarantees_valid repositioned
repositioned_user ts u h = h

repositioned_same : (ts : List Trade) (u : User) → (repositioned ts u).party ≡ u.party
unfolding repositioned
repositioned_same ts u = refl

pub pairs_length : {ts ns : List Trade} → Pairwise Framed ts ns → length ns ≡ length ts
pairs_length ended = refl
pairs_length (then p ps) = ap suc (pairs_length ps)

anew_sound : (b : Book) (ns : List Trade) → Sound b → Pairwise Framed b.trades ns → T (all (trade_is_valid b.users) ns) → Sound (anew b ns)
unfolding anew version_is_valid counts_are_valid groups_valid
anew_sound b ns s h k =
    let same = repositioned_same ns in
    let us = b.users in
    record {
      version = s.version;
      counts = rw (length-map b.users (repositioned ns), pairs_length h) s.counts;
      header = s.header;
      ids = rw (ids_rise-map (repositioned ns) same 0 b.users) s.ids;
      users = rw (all_map user_is_valid (repositioned ns) us) (all_by user_is_valid (λ u. user_is_valid (repositioned ns u)) (repositioned_user ns) us s.users);
      groups = groups_map (repositioned ns) same b.header.version b.users s.groups;
      trades = trades_map (repositioned ns) same b.users ns k;
      positions = rw (all_map (positions_are_valid ns) (repositioned ns) us) (all_yes (λ u. positions_are_valid ns (repositioned ns u)) (repositioned_ok ns) us);
    }

-- Trades that differ in what stands only, and pass question 6: an accepted book.
pub retraded_sound : (b : Book) (ns : List Trade) → Sound b → Pairwise Framed b.trades ns → T (all (trade_is_valid b.users) ns) → Sound (with_trades b ns)
retraded_sound b ns s h k = rw (retraded_anew b ns s h) (anew_sound b ns s h k)

anew_moved : (b : Book) (ns : List Trade) {x y : ℤ} → Pairwise Framed b.trades ns
    → left_mwh b.trades ns ≡ x → left_worth b.header.prices b.trades ns ≡ y → Moved b (anew b ns) (λ a. pos 0) x y
unfolding anew repositioned
anew_moved b ns h m w = record {
  header = refl;
  users = length-map b.users (repositioned ns);
  trades = h;
  physical = λ i l.
      map_sum (λ v. at v.physical i) (repositioned ns) (λ v. refl) b.users
      ∙ sym (+ℤ_idr (sum_ℤ (λ v. at v.physical i) b.users));
  mwh_left = m;
  worth_left = w;
}

pub retraded_moved : (b : Book) (ns : List Trade) {x y : ℤ} → Sound b → Pairwise Framed b.trades ns
    → left_mwh b.trades ns ≡ x → left_worth b.header.prices b.trades ns ≡ y → Moved b (with_trades b ns) (λ a. pos 0) x y
retraded_moved b ns {x} {y} s h m w = subst (λ (n : Book). Moved b n (λ a. pos 0) x y) (sym (retraded_anew b ns s h)) (anew_moved b ns h m w)
