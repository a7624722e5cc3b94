-- Positions in an array while own sales are cut one after the other: they are those of the settled users. Assumes nothing.
use Rattle.base.specs.Basics.{◌≡◌, refl, sym, ap, ap₂, subst, ◌∙◌, cond, List, [], ◌∷◌, map, ℕ, zero, suc, ◌+◌, ◌*◌, ◌-◌, ◌≤◌, ◌<◌, not-suc-le-zero}
use Rattle.base.specs.Basics.{le_of_suc-le-suc, arith, eqb, ℤ, pos, neg_ℤ, ◌+ℤ◌, +ℤ_idr, length, take, get_or, set, length-map, length-set, get_or-set_same}
use Rattle.base.specs.Basics.{get_or-set_other, set_out, take_all, eqb-true, eqb-false}
use Rattle.base.proofs.Tests.{by_case}
use Rattle.base.proofs.{Linear.by_order, Linear.neg_part-neg, Linear.neg_part-pos, Linear.parts_add, Linear.pos_part-neg, Linear.pos_part-pos, Stores.set_each}
use Rattle.book_format.specs.Steps.{place_of}
use Rattle.base.specs.Parts.{neg_part}
use Rattle.laws.proofs.Areas.{at-add}
use Rattle.laws.specs.Sound.{Sound}
use Rattle.rules.specs.{Book.at, Book.Book, Book.Party, Book.Trade, Book.User, Book.nobody, Book.no_trade, Calls.reduced_by, Changes.moved}
use Rattle.run_state.proofs.Reduced.{place_id, place_inside}
use Rattle.risk_user.proofs.Borne.{members_borne, party_borne}
use Rattle.run_state.specs.Asked.{moved_one, moved_all}
use Rattle.risk_user.specs.UserAt.{position_in, PositionsOf}
use Rattle.laws_sales.proofs.FirstCuts.{first_all, first_bound, first_length, first_next, first_none, own_cut_le, own_cuts_length}
use Rattle.laws_sales.proofs.{Numbers.read_at, Own.own_sales_lem, Reduced.sales_reduced, Valid.borne_ids, Valid.borne_valid_lem, Valid.sale_at}
use Rattle.laws_sales.specs.{Borne.borne_book, Borne.borne_result, Borne.borne_user, Reduced.own_sales, Reduced.own_cuts, Reduced.settled_first}
use Rattle.laws_sales.specs.Sales.{own_sale, settled_at}
use Rattle.units.proofs.Amounts.{net-eq, parts_net}
use Rattle.units.specs.Amounts.{net}

-- ---- one position

-- a number that rises, and one that falls
net_raised : (n c : ℕ) → net (record { 0 = n + c }) ≡ net (record { 0 = n }) +ℤ pos c
net_raised n c =
    let z = net (record { 0 = n }) in
    net-eq (record { 0 = n + c }) (z +ℤ pos c) (omega (arith, parts_add z (pos c), parts_net (record { 0 = n }), pos_part-pos c, neg_part-pos c))

net_lowered : (n c : ℕ) → c ≤ n → net (record { 0 = n - c }) ≡ net (record { 0 = n }) +ℤ neg_ℤ (pos c)
net_lowered n c h =
    let z = net (record { 0 = n }) in
    net-eq (record { 0 = n - c }) (z +ℤ neg_ℤ (pos c))
    (omega (arith, parts_add z (neg_ℤ (pos c)), parts_net (record { 0 = n }), pos_part-neg (pos c), neg_part-neg (pos c), pos_part-pos c, neg_part-pos c))

-- no other number rises
pub raised_le : (ps : List ℕ) (k c j : ℕ) → get_or ps j 0 ≤ get_or (set ps k (get_or ps k 0 + c)) j 0
raised_le ps k c j =
    by_order k (length ps)
    (λ h. set_each (λ i n. get_or ps i 0 ≤ n) ps k (get_or ps k 0 + c) 0 h (omega arith) (λ i n. omega arith) j)
    (λ h. omega (arith, ap (λ (xs : List ℕ). get_or xs j 0) (set_out ps k (get_or ps k 0 + c) h)))

module _ (us : List User) (ps : List ℕ) (i area : ℕ) (z : ℤ) (n : ℕ) (l : i < length us) (a : area < 3) (room : 3 * length us ≤ length ps) (p : PositionsOf us ps)
    (e : net (record { 0 = n }) ≡ position_in ps i area +ℤ z) where
  -- the user at the place, in the area and in another
  moved_here : (c : ℕ) → c < 3 → position_in (set ps (3 * i + area) n) i c ≡ at (get_or us i nobody).position c +ℤ cond (eqb area c) z (pos 0)
  moved_here c h =
      by_case (eqb area c)
      (λ y.
      rw y (subst (λ (m : ℕ). position_in (set ps (3 * i + area) n) i m ≡ at (get_or us i nobody).position m +ℤ z) (eqb-true area c y)
      (ap (λ (m : ℕ). net (record { 0 = m })) (get_or-set_same ps (3 * i + area) n 0 (omega arith)) ∙ e ∙ ap (λ (x : ℤ). x +ℤ z) (p.each i area l a))))
      (λ y. rw y
      (ap (λ (m : ℕ). net (record { 0 = m })) (get_or-set_other ps (3 * i + area) (3 * i + c) n 0 (λ w. eqb-false area c y (omega (arith, w)))) ∙ p.each i c l h ∙ sym (+ℤ_idr (at (get_or us i nobody).position c))))

  -- the user at a place is moved in an area
  pub position_moved : PositionsOf (set us i (moved area z (get_or us i nobody))) (set ps (3 * i + area) n)
  unfolding moved
  position_moved =
      record {
        each = λ j c h k.
            set_each (λ m u. m < length us → position_in (set ps (3 * i + area) n) m c ≡ at u.position c) us i (moved area z (get_or us i nobody)) nobody l
            (λ m. moved_here c k ∙ sym (at-add (get_or us i nobody).position area z c a k))
            (λ m apart x. ap (λ (y : ℕ). net (record { 0 = y })) (get_or-set_other ps (3 * i + area) (3 * m + c) n 0 (λ w. apart (omega (arith, w, k, a)))) ∙ p.each m c x k)
            j (omega (arith, length-set us i (moved area z (get_or us i nobody))));
      }

-- ---- one cut

pub one_length : (ps : List ℕ) (place buyer area c : ℕ) → length (moved_one place buyer area c ps) ≡ length ps
unfolding moved_one
one_length ps place buyer area c =
    let qs = set ps (3 * place + area) (get_or ps (3 * place + area) 0 + c) in
    length-set qs (3 * buyer + area) (get_or qs (3 * buyer + area) 0 - c) ∙ length-set ps (3 * place + area) (get_or ps (3 * place + area) 0 + c)

module _ (us : List User) (ps : List ℕ) (place buyer area c : ℕ) (l : place < length us) (k : buyer < length us) (a : area < 3) (room : 3 * length us ≤ length ps) where
  pub one_moved : c ≤ get_or ps (3 * buyer + area) 0 → PositionsOf us ps → PositionsOf (settled_at place buyer area c us) (moved_one place buyer area c ps)
  unfolding settled_at moved_one
  one_moved h p =
      let n = get_or ps (3 * place + area) 0 in
      let vs = set us place (moved area (pos c) (get_or us place nobody)) in
      let qs = set ps (3 * place + area) (n + c) in
      let m = get_or qs (3 * buyer + area) 0 in
      let long : length vs ≡ length us = length-set us place (moved area (pos c) (get_or us place nobody)) in
      let first : PositionsOf vs qs = position_moved us ps place area (pos c) (n + c) l a room p (net_raised n c) in
      position_moved vs qs buyer area (neg_ℤ (pos c)) (m - c) (omega (arith, long)) a (omega (arith, long, length-set ps (3 * place + area) (n + c))) first
      (net_lowered m c (omega (arith, raised_le ps (3 * place + area) c (3 * buyer + area))))

-- ---- cut after cut

-- as many positions
pub moved_length : (place : ℕ) (bs areas cs ps : List ℕ) → length (moved_all place bs areas cs ps) ≡ length ps
unfolding moved_all
moved_length place [] areas cs ps = refl
moved_length place (b ∷ bs) [] cs ps = refl
moved_length place (b ∷ bs) (a ∷ areas) [] ps = refl
moved_length place (b ∷ bs) (a ∷ areas) (c ∷ cs) ps = moved_length place bs areas cs (moved_one place b a c ps) ∙ one_length ps place b a c

-- one more
moved_next : (place : ℕ) (bs areas cs ps : List ℕ) (n : ℕ) → n < length bs → n < length areas → n < length cs
    → moved_all place (take (suc n) bs) (take (suc n) areas) (take (suc n) cs) ps ≡ moved_one place (get_or bs n 0) (get_or areas n 0) (get_or cs n 0) (moved_all place (take n bs) (take n areas) (take n cs) ps)
unfolding moved_all
moved_next place [] areas cs ps n h k l = absurd (not-suc-le-zero h)
moved_next place (b ∷ bs) [] cs ps n h k l = absurd (not-suc-le-zero k)
moved_next place (b ∷ bs) (a ∷ areas) [] ps n h k l = absurd (not-suc-le-zero l)
moved_next place (b ∷ bs) (a ∷ areas) (c ∷ cs) ps zero h k l = refl
moved_next place (b ∷ bs) (a ∷ areas) (c ∷ cs) ps (suc n) h k l =
    moved_next place bs areas cs (moved_one place b a c ps) n (le_of_suc-le-suc h) (le_of_suc-le-suc k) (le_of_suc-le-suc l)

module _ (b : Book) (s : Sound b) (place : ℕ) (k : place < length b.users) (asked : ℕ) (ps : List ℕ) (room : 3 * length b.users ≤ length ps) (p : PositionsOf (borne_book b).users ps) where
  abbrev seller : User
  seller = get_or b.users place nobody

  -- the book, the user, its own sales and their cuts, as the risk is borne
  abbrev bb : Book
  bb = borne_book b

  abbrev ub : User
  ub = borne_user b.users (get_or b.users place nobody)

  abbrev sales : List Trade
  sales = own_sales (borne_book b) (borne_user b.users (get_or b.users place nobody))

  abbrev buyers : List ℕ
  buyers = map (λ t. place_of (borne_book b).users t.terms.buyer) (own_sales (borne_book b) (borne_user b.users (get_or b.users place nobody)))

  abbrev codes : List ℕ
  codes = map (λ t. t.terms.area) (own_sales (borne_book b) (borne_user b.users (get_or b.users place nobody)))

  abbrev cuts : List ℕ
  cuts = own_cuts (borne_book b) (borne_user b.users (get_or b.users place nobody)) asked

  -- after some of the cuts
  moved_first : (n : ℕ) → n ≤ length sales
      → PositionsOf (settled_first own_sale bb ub asked n) (moved_all place (take n buyers) (take n codes) (take n cuts) ps)
  unfolding moved_all borne_user
  moved_first zero h = subst (λ (us : List User). PositionsOf us ps) (sym (first_none own_sales_lem bb ub asked)) p
  moved_first (suc n) h =
      let before = moved_first n (omega arith) in
      let qs = moved_all place (take n buyers) (take n codes) (take n cuts) ps in
      let us = settled_first own_sale bb ub asked n in
      let t = get_or sales n no_trade in
      let sale = sale_at bb.users bb.trades seller.party.id n no_trade (borne_valid_lem b s) (omega arith) in
      let buyer = place_of bb.users t.terms.buyer in
      let inside = place_inside bb.users t.terms.buyer sale.buyer in
      let as_many = members_borne b in
      let area = t.terms.area in
      let c = get_or cuts n 0 in
      let many = first_length own_sales_lem bb ub asked n in
      let stands = read_at (λ x. x.standing) sales n no_trade 0 (omega arith) in
      let bound = first_bound b seller asked s n buyer area (omega (arith, inside, as_many)) sale.area in
      let x = get_or qs (3 * buyer + area) 0 in
      let here = before.each buyer area (omega (arith, many, inside)) sale.area in
      let small : c ≤ x = omega (arith, own_cut_le own_sales_lem bb ub asked n, stands, sale.standing, bound.1, parts_net (record { 0 = x }), ap neg_part here) in
      let eb : get_or buyers n 0 ≡ buyer = read_at (λ x. place_of bb.users x.terms.buyer) sales n no_trade 0 (omega arith) in
      let ea : get_or codes n 0 ≡ area = read_at (λ x. x.terms.area) sales n no_trade 0 (omega arith) in
      let next : moved_all place (take (suc n) buyers) (take (suc n) codes) (take (suc n) cuts) ps ≡ moved_one place buyer area c qs
      = moved_next place buyers codes cuts ps n (omega (arith, length-map sales (λ x. place_of bb.users x.terms.buyer))) (omega (arith, length-map sales (λ x. x.terms.area))) (omega (arith, own_cuts_length own_sales_lem bb ub asked))
      ∙ ap₂ (λ (i j : ℕ). moved_one place i j c qs) eb ea in
      let long = moved_length place (take n buyers) (take n codes) (take n cuts) ps in
      subst (λ (rs : List ℕ). PositionsOf (settled_first own_sale bb ub asked (suc n)) rs) (sym next)
      (subst (λ (vs : List User). PositionsOf vs (moved_one place buyer area c qs))
      (sym (first_next own_sales_lem bb ub asked (borne_ids b s) n place buyer no_trade (omega arith) (omega (arith, k, as_many)) inside (ap (λ (q : Party). q.id) (party_borne b place) ∙ sym sale.seller) (place_id bb.users t.terms.buyer sale.buyer)))
      (one_moved us qs place buyer area c (omega (arith, many, k, as_many)) (omega (arith, many, inside)) sale.area (omega (arith, many, long, as_many)) small before))

  -- after all
  pub all_moved : PositionsOf (borne_book (reduced_by b seller asked).book).users (moved_all place buyers codes cuts ps)
  unfolding borne_result
  all_moved =
      let n = length sales in
      let e : moved_all place (take n buyers) (take n codes) (take n cuts) ps ≡ moved_all place buyers codes cuts ps
      = ap₂ (λ (xs ys : List ℕ). moved_all place xs ys (take n cuts) ps) (take_all n buyers (omega (arith, length-map sales (λ x. place_of bb.users x.terms.buyer)))) (take_all n codes (omega (arith, length-map sales (λ x. x.terms.area))))
      ∙ ap (λ (xs : List ℕ). moved_all place buyers codes xs ps) (take_all n cuts (omega (arith, own_cuts_length own_sales_lem bb ub asked))) in
      subst (λ (rs : List ℕ). PositionsOf (borne_book (reduced_by b seller asked).book).users rs) e
      (subst (λ (us : List User). PositionsOf us (moved_all place (take n buyers) (take n codes) (take n cuts) ps))
      (first_all own_sales_lem bb ub asked n (omega arith) ∙ sym (sales_reduced b seller asked s).users)
      (moved_first n (omega arith)))
