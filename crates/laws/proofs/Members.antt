-- What a user holds by those whose risk it bears: the sums over the trades as they are borne are the sums over these users, positions as they are borne are as defined, and so bounded. Assumes nothing.
use Rattle.base.specs.Basics.{◌≡◌, refl, sym, ap, ◌∙◌, Bool, true, false, cond, ◌&&◌, List, [], ◌∷◌, map, ℕ, ◌+◌, ◌*◌, ◌≤◌, ◌<◌, arith, T, eqb, leb, eqb→eq}
use Rattle.base.specs.Basics.{leb→le, ℤ, pos, length}
use Rattle.base.proofs.Linear.{pos_part_of, neg_part_of, pos_part-pos, neg_part-pos}
use Rattle.base.proofs.Sums.{parts_sum, sum-map, sum_swap, sum_ext, sum-zero}
use Rattle.base.proofs.Tests.{and_l, and_r, by_test, sum_by, sum_ℤ_by}
use Rattle.base.specs.{Lists.all, Parts.pos_part, Parts.neg_part, Sums.sum, Sums.sum_ℤ}
use Rattle.laws.proofs.Bounds.{entry_le}
use Rattle.laws.proofs.Positions.{once, seller_known, buyer_known, parts_defined_sum, position_is}
use Rattle.laws.specs.Sound.{Sound}
use Rattle.rules.specs.Bearers.{bearer, borne_sum, as_borne, borne}
use Rattle.rules.specs.Book.{at, Terms, User, Trade, Book, find, dealt, sold, bought, defined_position}
use Rattle.rules.specs.Questions.{counts_are_valid, ids_rise, known, positions_are_valid, trade_is_valid, user_is_valid}

-- a number for each user whose risk the user of an id bears in an area
unfoldable pub members_sum : (User → ℕ) → List User → ℕ → ℕ → ℕ
members_sum amount us id area = sum (λ v. cond (eqb (bearer v area) id) (amount v) 0) us

-- a test of nothing
same : (c : Bool) (n : ℕ) → cond c n n ≡ n
same true n = refl
same false n = refl

-- a test that stands before every summand
sum-if : {A : Type 0} (c : Bool) (f : A → ℕ) (xs : List A) → sum (λ x. cond c (f x) 0) xs ≡ cond c (sum f xs) 0
sum-if true f xs = refl
sum-if false f xs = sum-zero xs

-- ---- "the sums over itself and its members": sold and bought

module _ (us : List User) (side : Terms → ℕ) (bears : (t : Trade) → side (as_borne us t).terms ≡ bearer (find us (side t.terms)) t.terms.area) where
  -- one trade is dealt by one user
  dealt_by_one : (id area day : ℕ) (t : Trade) → T (ids_rise 0 us) → T (known us (side t.terms))
      → cond (eqb (side (as_borne us t).terms) id) (cond (eqb t.terms.area area && eqb t.terms.day day) t.standing 0) 0
      ≡ sum (λ v. cond (eqb (bearer v area) id) (cond (eqb (side t.terms) v.party.id) (cond (eqb t.terms.area area && eqb t.terms.day day) t.standing 0) 0) 0) us
  dealt_by_one id area day t r k =
      rw (bears t) (go (eqb t.terms.area area) (λ e. eqb→eq t.terms.area area e))
      ∙ sym (once (λ v. cond (eqb (bearer v area) id) here 0) us 0 (side t.terms) r k)
      ∙ sum_ext (λ v. cond (eqb (side t.terms) v.party.id) (cond (eqb (bearer v area) id) here 0) 0) (λ v. cond (eqb (bearer v area) id) (cond (eqb (side t.terms) v.party.id) here 0) 0)
      (λ v. either (eqb (side t.terms) v.party.id) (eqb (bearer v area) id)) us
    where
      here : ℕ
      here = cond (eqb t.terms.area area && eqb t.terms.day day) t.standing 0

      w : User
      w = find us (side t.terms)

      go : (c : Bool) → (T c → t.terms.area ≡ area)
          → cond (eqb (bearer w t.terms.area) id) (cond (c && eqb t.terms.day day) t.standing 0) 0 ≡ cond (eqb (bearer w area) id) (cond (c && eqb t.terms.day day) t.standing 0) 0
      go true e = ap (λ (a : ℕ). cond (eqb (bearer w a) id) (cond (eqb t.terms.day day) t.standing 0) 0) (e tt)
      go false e = same (eqb (bearer w t.terms.area) id) 0 ∙ sym (same (eqb (bearer w area) id) 0)

      either : (p q : Bool) → cond p (cond q here 0) 0 ≡ cond q (cond p here 0) 0
      either true true = refl
      either true false = refl
      either false true = refl
      either false false = refl

  -- all trades, by the users who deal
  dealt_members : (ts : List Trade) (id area day : ℕ) → T (ids_rise 0 us) → T (all (trade_is_valid us) ts) → ((t : Trade) → T (trade_is_valid us t) → T (known us (side t.terms)))
      → dealt side (λ party. eqb party id) (map (as_borne us) ts) area day ≡ members_sum (λ v. dealt side (λ party. eqb party v.party.id) ts area day) us id area
  unfolding dealt members_sum as_borne
  dealt_members ts id area day r k is_known =
      sum-map (λ t. cond (eqb (side t.terms) id) (cond (eqb t.terms.area area && eqb t.terms.day day) t.standing 0) 0) (as_borne us) ts
      ∙ sum_by (trade_is_valid us) (λ t h. dealt_by_one id area day t r (is_known t h)) ts k
      ∙ sum_swap (λ t v. cond (eqb (bearer v area) id) (cond (eqb (side t.terms) v.party.id) (cond (eqb t.terms.area area && eqb t.terms.day day) t.standing 0) 0) 0) ts us
      ∙ sum_ext
      (λ v. sum (λ t. cond (eqb (bearer v area) id) (cond (eqb (side t.terms) v.party.id) (cond (eqb t.terms.area area && eqb t.terms.day day) t.standing 0) 0) 0) ts)
      (λ v. cond (eqb (bearer v area) id) (sum (λ t. cond (eqb (side t.terms) v.party.id) (cond (eqb t.terms.area area && eqb t.terms.day day) t.standing 0) 0) ts) 0)
      (λ v.
      sum-if (eqb (bearer v area) id) (λ t. cond (eqb (side t.terms) v.party.id) (cond (eqb t.terms.area area && eqb t.terms.day day) t.standing 0) 0) ts)
      us

module _ (b : Book) (s : Sound b) (id area day : ℕ) where
  pub sold_members : sold (borne b) id area day ≡ members_sum (λ v. sold b.trades v.party.id area day) b.users id area
  unfolding sold borne as_borne
  sold_members = dealt_members b.users (λ r. r.seller) (λ t. refl) b.trades id area day s.ids s.trades (seller_known b.users)

  pub bought_members : bought (borne b) id area day ≡ members_sum (λ v. bought b.trades v.party.id area day) b.users id area
  unfolding bought borne as_borne
  bought_members = dealt_members b.users (λ r. r.buyer) (λ t. refl) b.trades id area day s.ids s.trades (buyer_known b.users)

-- ---- positions and entries as they are borne

-- the position of a group is as defined, of its entries and of its trades
pub parts_borne : (b : Book) → Sound b → (id a : ℕ) → a < 3
    → pos_part (borne_sum (λ v. v.position) b.users id a) + (neg_part (borne_sum (λ v. v.physical) b.users id a) + sold (borne b) id a 0)
    ≡ neg_part (borne_sum (λ v. v.position) b.users id a) + (pos_part (borne_sum (λ v. v.physical) b.users id a) + bought (borne b) id a 0)
unfolding borne_sum members_sum
parts_borne b s id a l =
    rw (
      sold_members b s id a 0,
      bought_members b s id a 0,
      sum_ℤ_by (positions_are_valid b.trades) {f = λ v. cond (eqb (bearer v a) id) (at v.position a) (pos 0)} {g = λ v. cond (eqb (bearer v a) id) (defined_position b.trades v a) (pos 0)}
          (λ v p. ap (λ (z : ℤ). cond (eqb (bearer v a) id) z (pos 0)) (position_is b.trades v a l p)) b.users s.positions,
    )
    (parts_defined_sum (λ v. eqb (bearer v a) id) b.trades a b.users)

-- what at most 64 users have, each at most n
sum_most : (f : User → ℕ) (n : ℕ) (us : List User) → T (all user_is_valid us) → ((u : User) → T (user_is_valid u) → f u ≤ n) → sum f us ≤ n * length us
unfolding sum all
sum_most f n [] h k = omega arith
sum_most f n (u ∷ us) h k =
    omega (arith, sum_most f n us (and_r (user_is_valid u) (all user_is_valid us) h) k, k u (and_l (user_is_valid u) (all user_is_valid us) h))

-- the entries of a group: at most 64 of at most 1,000,000
pub entries_borne : (b : Book) → Sound b → (id a : ℕ) → a < 3
    → (pos_part (borne_sum (λ v. v.physical) b.users id a) ≤ 64000000) × (neg_part (borne_sum (λ v. v.physical) b.users id a) ≤ 64000000)
unfolding borne_sum counts_are_valid
entries_borne b s id a l =
    let us = b.users in
    let entry : User → ℤ = λ v. cond (eqb (bearer v a) id) (at v.physical a) (pos 0) in
    let z = sum_ℤ entry us in
    let few = leb→le (length us) 64 (and_r (leb 1 (length us)) (leb (length us) 64) (and_l (leb 1 (length us) && leb (length us) 64) (leb (length b.trades) 256) s.counts)) in
    let parts = parts_sum entry us in
    let above = sum_most (λ v. pos_part (entry v)) 1000000 us s.users (λ v h. (most v h).0) in
    let below = sum_most (λ v. neg_part (entry v)) 1000000 us s.users (λ v h. (most v h).1) in
    (omega (arith, few, above, pos_part_of z (sum (λ v. pos_part (entry v)) us) (sum (λ v. neg_part (entry v)) us) parts), omega (arith, few, below, neg_part_of z (sum (λ v. pos_part (entry v)) us) (sum (λ v. neg_part (entry v)) us) parts))
  where
    most : (v : User) → T (user_is_valid v) → (pos_part (cond (eqb (bearer v a) id) (at v.physical a) (pos 0)) ≤ 1000000) × (neg_part (cond (eqb (bearer v a) id) (at v.physical a) (pos 0)) ≤ 1000000)
    most v h =
        by_test (λ (x : ℤ). (pos_part x ≤ 1000000) × (neg_part x ≤ 1000000)) (eqb (bearer v a) id) (λ t. entry_le v a l h) (λ t. (omega (arith, pos_part-pos 0), omega (arith, neg_part-pos 0)))
