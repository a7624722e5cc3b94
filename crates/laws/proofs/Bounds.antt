-- Numeric bounds of an accepted book: what was sold and bought, positions within ±26,600,000, so that they fit their 32 bits. Assumes nothing.
use Rattle.base.specs.Basics.{◌≡◌, refl, Bool, true, false, cond, ◌&&◌, List, [], ◌∷◌, ◌*◌, ◌+◌, ◌≤◌, ℕ, ◌<◌, arith, T, eqb, leb, leb→le, nat_abs, ℤ, length}
use Rattle.base.specs.Basics.{eqb-true, ne_eqb}
use Rattle.base.proofs.{Linear.abs_parts, Linear.neg_part_of, Linear.pos_part_of, Tests.and_l, Tests.and_r, Tests.by_case, Tests.by_test, Tests.of_three}
use Rattle.base.specs.{Parts.neg_part, Parts.pos_part, Sums.sum, Lists.all}
use Rattle.laws.proofs.Positions.{parts_defined, position_is}
use Rattle.laws.specs.Sound.{Sound}
use Rattle.rules.specs.{Areas.selling_in, Book.Book, Book.Trade, Book.User, Book.Terms, Book.dealt, Book.at, Book.bought, Book.defined_position, Book.sold}
use Rattle.rules.specs.Questions.{amounts_valid, counts_are_valid, guarantees_valid, trade_is_valid, entries_valid, user_is_valid, header_is_valid, positions_are_valid, prices_are_valid}
use Rattle.rules.specs.Questions.{most_selling, selling_is_valid, tariff_valid, toll_valid}
use Rattle.rules.specs.Signed.{within}

-- ---- trades: at most 256 of at most 100,000 MWh

pub standing_le : (us : List User) (t : Trade) → T (trade_is_valid us t) → t.standing ≤ 100000
unfolding trade_is_valid amounts_valid
standing_le us t h =
    let a = leb→le t.standing t.terms.notified (search (and_l, and_r)) in
    let b = leb→le t.terms.notified 100000 (search (and_l, and_r)) in
    omega arith

standing_sum : (us : List User) (ts : List Trade) → T (all (trade_is_valid us) ts) → sum (λ t. t.standing) ts ≤ 100000 * length ts
unfolding sum all
standing_sum us [] h = omega arith
standing_sum us (t ∷ ts) h =
    omega (arith, standing_sum us ts (and_r (trade_is_valid us t) (all (trade_is_valid us) ts) h), standing_le us t (and_l (trade_is_valid us t) (all (trade_is_valid us) ts) h))

pub trades-le : (b : Book) → Sound b → sum (λ t. t.standing) b.trades ≤ 25600000
unfolding counts_are_valid
trades-le b s =
    let n = leb→le (length b.trades) 256 (and_r (leb 1 (length b.users) && leb (length b.users) 64) (leb (length b.trades) 256) s.counts) in
    omega (arith, standing_sum b.users b.trades s.trades)

-- ---- what one side dealt in all areas on both days is at most what stands in all trades

-- a number is at most one of 0, 1 and 2
one_of_three : (x n : ℕ) → cond (eqb x 0) n 0 + cond (eqb x 1) n 0 + cond (eqb x 2) n 0 ≤ n
one_of_three x n =
    by_case (eqb x 0) (λ p. rw (p, ne_eqb x 1 (λ e. omega (arith, eqb-true x 0 p)), ne_eqb x 2 (λ e. omega (arith, eqb-true x 0 p))) (omega arith))
    (λ p. by_case (eqb x 1) (λ q. rw (p, q, ne_eqb x 2 (λ e. omega (arith, eqb-true x 1 q))) (omega arith))
    (λ q. by_test (λ (m : ℕ). cond (eqb x 0) n 0 + cond (eqb x 1) n 0 + m ≤ n) (eqb x 2) (λ t. rw (p, q) (omega arith)) (λ t. rw (p, q) (omega arith))))

and-cond : (c p q : Bool) (n : ℕ) → cond c (cond (p && q) n 0) 0 ≡ cond p (cond c (cond q n 0) 0) 0
and-cond true true q n = refl
and-cond true false q n = refl
and-cond false true q n = refl
and-cond false false q n = refl

-- an amount of each area and day, in all three areas on both days
unfoldable pub dealt_in_all : (ℕ → ℕ → ℕ) → ℕ
dealt_in_all amount = amount 0 0 + amount 1 0 + amount 2 0 + (amount 0 1 + amount 1 1 + amount 2 1)

-- in one area for the day it is no more
pub in_all : (amount : ℕ → ℕ → ℕ) {n : ℕ} → dealt_in_all amount ≤ n → (a : ℕ) → a < 3 → amount a 0 ≤ n
unfolding dealt_in_all
in_all amount {n} h = of_three (λ (a : ℕ). amount a 0 ≤ n) (omega arith) (omega arith) (omega arith)

pub dealt-le : (side : Terms → ℕ) (counts : ℕ → Bool) (ts : List Trade) → dealt_in_all (dealt side counts ts) ≤ sum (λ t. t.standing) ts
unfolding dealt_in_all dealt sum
dealt-le side counts [] = omega arith
dealt-le side counts (t ∷ ts) =
    let c = counts (side t.terms) in
    let a = t.terms.area in
    let d = t.terms.day in
    let n = t.standing in
    omega (
      arith,
      dealt-le side counts ts,
      and-cond c (eqb a 0) (eqb d 0) n,
      and-cond c (eqb a 1) (eqb d 0) n,
      and-cond c (eqb a 2) (eqb d 0) n,
      and-cond c (eqb a 0) (eqb d 1) n,
      and-cond c (eqb a 1) (eqb d 1) n,
      and-cond c (eqb a 2) (eqb d 1) n,
      one_of_three a (cond c (cond (eqb d 0) n 0) 0),
      one_of_three a (cond c (cond (eqb d 1) n 0) 0),
      days c (eqb d 0) (eqb d 1) n (omega (arith, one_of_three d n)),
    )
  where
    days : (c p q : Bool) (n : ℕ) → cond p n 0 + cond q n 0 ≤ n → cond c (cond p n 0) 0 + cond c (cond q n 0) 0 ≤ n
    days true p q n h = omega arith
    days false p q n h = omega arith

-- ---- one user

pub within-le : (n : ℕ) (z : ℤ) → T (within n z) → (pos_part z ≤ n) × (neg_part z ≤ n)
unfolding within
within-le n z h = let l = leb→le (nat_abs z) n h in (omega (arith, abs_parts z), omega (arith, abs_parts z))

pub entry_le : (u : User) (a : ℕ) → a < 3 → T (user_is_valid u) → (pos_part (at u.physical a) ≤ 1000000) × (neg_part (at u.physical a) ≤ 1000000)
unfolding user_is_valid entries_valid
entry_le u a k h =
    within-le 1000000 (at u.physical a)
    (of_three (λ (a : ℕ). T (within 1000000 (at u.physical a))) (search (and_l, and_r)) (search (and_l, and_r)) (search (and_l, and_r)) a k)

pub charges_le : (u : User) → T (user_is_valid u) → pos_part u.party.charges ≤ 1000000000000
unfolding user_is_valid
charges_le u h = (within-le 1000000000000 u.party.charges (search (and_l, and_r))).0

-- one side of a difference
pub below_parts : (z : ℤ) (a b : ℕ) → pos_part z + b ≡ neg_part z + a → (pos_part z ≤ a) × (neg_part z ≤ b)
below_parts z a b e = (omega (arith, pos_part_of z a b (omega arith)), omega (arith, neg_part_of z a b (omega arith)))

-- and the blocked guarantee
pub blocked-le : (u : User) → T (user_is_valid u) → u.blocked ≤ 1000000000000
unfolding user_is_valid guarantees_valid
blocked-le u t =
    let a = leb→le u.blocked u.party.assigned (search (and_l, and_r)) in
    let b = leb→le u.party.assigned 1000000000000 (search (and_l, and_r)) in
    omega arith

pub prices-le : (b : Book) → Sound b
    → (b.header.prices.p ≤ 100000) × (b.header.prices.q ≤ 100000) × (b.header.prices.l ≤ 100000) × (b.header.prices.x ≤ 100000) × (b.header.prices.i ≤ 100000)
unfolding header_is_valid prices_are_valid tariff_valid toll_valid
prices-le b s =
    let f = b.header.prices in
    let h = s.header in (
      leb→le f.p 100000 (search (and_l, and_r)),
      leb→le f.q 100000 (search (and_l, and_r)),
      leb→le f.l 100000 (search (and_l, and_r)),
      leb→le f.x 100000 (search (and_l, and_r)),
      leb→le f.i 100000 (search (and_l, and_r)),
    )

-- selling tariffs, and that a version without them has none
pub selling_le : (b : Book) → Sound b → (b.header.prices.s ≤ most_selling b.header.version) × (b.header.prices.u ≤ most_selling b.header.version)
unfolding header_is_valid selling_is_valid
selling_le b s =
    let h = s.header in
    let most = most_selling b.header.version in
    (leb→le b.header.prices.s most (search (and_l, and_r)), leb→le b.header.prices.u most (search (and_l, and_r)))

pub selling_most_lem : (version : ℕ) → most_selling version ≤ 100000
unfolding most_selling
selling_most_lem version = by_test (λ (n : ℕ). n ≤ 100000) (selling_in version) (λ t. omega arith) (λ t. omega arith)

pub tariffs_pos : (b : Book) → Sound b → (0 < b.header.prices.p) × (0 < b.header.prices.q)
unfolding header_is_valid prices_are_valid tariff_valid
tariffs_pos b s =
    let h = s.header in
    (leb→le 1 b.header.prices.p (search (and_l, and_r)), leb→le 1 b.header.prices.q (search (and_l, and_r)))

-- what a user sold and bought in an area on a day, from the sums over all areas and both days
module _ (b : Book) (s : Sound b) (u : User) (v : T (user_is_valid u)) (p : T (positions_are_valid b.trades u)) where
  sold-le : dealt_in_all (sold b.trades u.party.id) ≤ 25600000
  unfolding dealt_in_all sold
  sold-le = omega (arith, trades-le b s, dealt-le (λ r. r.seller) (λ party. eqb party u.party.id) b.trades)

  bought-le : dealt_in_all (bought b.trades u.party.id) ≤ 25600000
  unfolding dealt_in_all bought
  bought-le = omega (arith, trades-le b s, dealt-le (λ r. r.buyer) (λ party. eqb party u.party.id) b.trades)

  -- a position lies between what was sold and what was bought
  position_parts : (a : ℕ) → a < 3
      → (pos_part (at u.position a) ≤ 1000000 + bought b.trades u.party.id a 0)
      × (neg_part (at u.position a) ≤ 1000000 + sold b.trades u.party.id a 0)
  position_parts a k =
      let d = defined_position b.trades u a in
      let e : at u.position a ≡ d = position_is b.trades u a k p in
      let l = below_parts d (pos_part (at u.physical a) + bought b.trades u.party.id a 0) (neg_part (at u.physical a) + sold b.trades u.party.id a 0) (parts_defined b.trades u a) in
      let n = entry_le u a k v in
      rw e (omega arith, omega arith)

  pub position_bound : (a : ℕ) → a < 3 → (pos_part (at u.position a) ≤ 26600000) × (neg_part (at u.position a) ≤ 26600000)
  position_bound a k =
      let l = position_parts a k in
      let id = u.party.id in
      (omega (arith, l, in_all (bought b.trades id) bought-le a k), omega (arith, l, in_all (sold b.trades id) sold-le a k))
