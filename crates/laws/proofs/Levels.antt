-- Numeric bounds of an accepted book as its risk is borne, where a manager bears that of up to 64 users: positions within ±89,600,000, levels below 2^46. Assumes nothing.
use Rattle.base.specs.Basics.{◌*◌, ◌+◌, ◌≤◌, ℕ, ◌<◌, mul-le-mul, arith, T, eqb, ◌-ℤ◌, pos, ◌+ℤ◌, neg_ℤ}
use Rattle.base.proofs.Linear.{pos_part_of, neg_part-pos, parts_sub, pos_part-pos, neg_part-neg, parts_add, pos_part-neg}
use Rattle.base.proofs.{Sums.sum-map, Tests.by_test}
use Rattle.base.specs.{Parts.neg_part, Parts.pos_part, Sums.sum}
use Rattle.laws.proofs.Bounds.{below_parts, charges_le, dealt-le, dealt_in_all, in_all, prices-le, trades-le}
use Rattle.laws.proofs.Members.{entries_borne, parts_borne}
use Rattle.laws.specs.Sound.{Sound}
use Rattle.rules.specs.{Areas.reference_price_of, Areas.areas, Bearers.as_borne, Bearers.borne, Bearers.borne_sum, Book.Book, Book.User, Book.bought, Book.sold}
use Rattle.rules.specs.Levels.{need_of_afternoon, credit, exposure, holding, stock, Limits, afternoon_level, afternoon_sum, floored, morning_level, need_of_morning}
use Rattle.rules.specs.Levels.{morning_sum}
use Rattle.rules.specs.Questions.{user_is_valid}

-- what a user sold, and what it bought, as it is borne, in all areas on both days
module _ (b : Book) (s : Sound b) (id : ℕ) where
  all_sold-le : dealt_in_all (sold (borne b) id) ≤ 25600000
  unfolding dealt_in_all sold borne as_borne
  all_sold-le =
      omega (arith, trades-le b s, sum-map (λ t. t.standing) (as_borne b.users) b.trades, dealt-le (λ r. r.seller) (λ party. eqb party id) (borne b))

  all_bought-le : dealt_in_all (bought (borne b) id) ≤ 25600000
  unfolding dealt_in_all bought borne as_borne
  all_bought-le =
      omega (arith, trades-le b s, sum-map (λ t. t.standing) (as_borne b.users) b.trades, dealt-le (λ r. r.buyer) (λ party. eqb party id) (borne b))

  -- the position of a group lies between what was sold and what was bought
  position_parts : (a : ℕ) → a < 3
      → (pos_part (borne_sum (λ v. v.position) b.users id a) ≤ 64000000 + bought (borne b) id a 0)
      × (neg_part (borne_sum (λ v. v.position) b.users id a) ≤ 64000000 + sold (borne b) id a 0)
  position_parts a k =
      let z = borne_sum (λ v. v.position) b.users id a in
      let e = borne_sum (λ v. v.physical) b.users id a in
      let l = below_parts z (pos_part e + bought (borne b) id a 0) (neg_part e + sold (borne b) id a 0) (parts_borne b s id a k) in
      (omega (arith, l, entries_borne b s id a k), omega (arith, l, entries_borne b s id a k))

  pub borne_bound : (a : ℕ) → a < 3 → (pos_part (borne_sum (λ v. v.position) b.users id a) ≤ 89600000) × (neg_part (borne_sum (λ v. v.position) b.users id a) ≤ 89600000)
  borne_bound a k =
      let l = position_parts a k in
      (omega (arith, l, in_all (bought (borne b) id) all_bought-le a k), omega (arith, l, in_all (sold (borne b) id) all_sold-le a k))

module _ (b : Book) (s : Sound b) (u : User) where
  short_le : (a : ℕ) → a < 3 → neg_part (holding b u a).position ≤ 64000000 + sold (borne b) u.party.id a 0
  unfolding holding
  short_le a k = (position_parts b s u.party.id a k).1

  price_le : (a : ℕ) → reference_price_of b.header.prices a ≤ 300000
  unfolding reference_price_of
  price_le a =
      let h = s.header in
      by_test (λ (n : ℕ). n ≤ 300000) (eqb a 0) (λ t. omega (arith, prices.0))
      (λ t. by_test (λ (n : ℕ). n ≤ 300000) (eqb a 1) (λ k. omega (arith, prices)) (λ k. omega (arith, prices)))
    where
      prices : (b.header.prices.p ≤ 100000) × (b.header.prices.q ≤ 100000) × (b.header.prices.l ≤ 100000) × (b.header.prices.x ≤ 100000) × (b.header.prices.i ≤ 100000)
      prices = prices-le b s

  -- an amount at its reference price
  worth_le : (a n m : ℕ) → n ≤ m → n * reference_price_of b.header.prices a ≤ m * 300000
  worth_le a n m h = mul-le-mul h (price_le a)

  afternoon_need_lem : (a : ℕ) → pos_part (need_of_afternoon a (holding b u a)) ≤ sold (borne b) u.party.id a 1
  unfolding need_of_afternoon holding
  afternoon_need_lem a =
      let x = sold (borne b) u.party.id a 1 in
      let y = bought (borne b) u.party.id a 1 in
      let z = stock a (holding b u a) in
      (below_parts (pos x -ℤ pos y -ℤ pos z) x (y + z)
      (omega (arith, parts_sub (pos x) (pos y), parts_sub (pos x -ℤ pos y) (pos z), pos_part-pos x, neg_part-pos x, pos_part-pos y, neg_part-pos y, pos_part-pos z, neg_part-pos z))).0

  exposure-le : exposure b.header.prices (holding b u)
      ≤ (192000000 + (sold (borne b) u.party.id 0 0 + sold (borne b) u.party.id 1 0 + sold (borne b) u.party.id 2 0)) * 300000
  unfolding exposure areas sum
  exposure-le =
      omega (
        arith,
        worth_le 0 (neg_part (holding b u 0).position) (64000000 + sold (borne b) u.party.id 0 0) (short_le 0 (omega arith)),
        worth_le 1 (neg_part (holding b u 1).position) (64000000 + sold (borne b) u.party.id 1 0) (short_le 1 (omega arith)),
        worth_le 2 (neg_part (holding b u 2).position) (64000000 + sold (borne b) u.party.id 2 0) (short_le 2 (omega arith)),
      )

  morning_need_lem : (a : ℕ) → a < 3
      → pos_part (need_of_morning (holding b u a)) ≤ 64000000 + (sold (borne b) u.party.id a 0 + sold (borne b) u.party.id a 1)
  unfolding need_of_morning holding
  morning_need_lem a k =
      let p = borne_sum (λ v. v.physical) b.users u.party.id a in
      let x = sold (borne b) u.party.id a 0 + sold (borne b) u.party.id a 1 in
      let y = bought (borne b) u.party.id a 0 + bought (borne b) u.party.id a 1 in
      let l = below_parts (neg_ℤ p +ℤ pos x -ℤ pos y) (neg_part p + x) (pos_part p + y)
      (omega (arith, parts_add (neg_ℤ p) (pos x), parts_sub (neg_ℤ p +ℤ pos x) (pos y), pos_part-neg p, neg_part-neg p, pos_part-pos x, neg_part-pos x, pos_part-pos y, neg_part-pos y)) in
      omega (arith, l, entries_borne b s u.party.id a k)

  module _ (v : T (user_is_valid u)) (limits : Limits) (low : limits.floor ≤ 66280000000000) where
    -- charges of at most 10^12, and 217,600,000 MWh at a price of at most 300,000
    pub morning_level_le : morning_level limits b u ≤ 66280000000000
    unfolding morning_level morning_sum floored areas sum dealt_in_all
    morning_level_le =
        let id = u.party.id in
        let ts = borne b in
        let n0 = sold ts id 0 0 + sold ts id 0 1 in
        let n1 = sold ts id 1 0 + sold ts id 1 1 in
        let n2 = sold ts id 2 0 + sold ts id 2 1 in
        let needs = sum (λ a. pos_part (need_of_morning (holding b u a)) * reference_price_of b.header.prices a) areas in
        omega (
          arith,
          charges_le u v,
          all_sold-le b s u.party.id,
          parts_add u.party.charges (pos needs),
          pos_part_of (u.party.charges +ℤ pos needs) (pos_part u.party.charges + needs) (neg_part u.party.charges) (omega (arith, parts_add u.party.charges (pos needs), pos_part-pos needs, neg_part-pos needs)),
          worth_le 0 (pos_part (need_of_morning (holding b u 0))) (64000000 + n0) (morning_need_lem 0 (omega arith)),
          worth_le 1 (pos_part (need_of_morning (holding b u 1))) (64000000 + n1) (morning_need_lem 1 (omega arith)),
          worth_le 2 (pos_part (need_of_morning (holding b u 2))) (64000000 + n2) (morning_need_lem 2 (omega arith)),
        )

    pub afternoon_level_le : afternoon_level limits b u ≤ 66280000000000
    unfolding afternoon_level afternoon_sum floored areas sum dealt_in_all
    afternoon_level_le =
        let id = u.party.id in
        let ts = borne b in
        let needs = sum (λ a. pos_part (need_of_afternoon a (holding b u a)) * reference_price_of b.header.prices a) areas in
        let short = exposure b.header.prices (holding b u) in
        let long = credit b.header.prices (holding b u) in
        let c = u.party.charges in
        omega (
          arith,
          charges_le u v,
          all_sold-le b s u.party.id,
          exposure-le,
          pos_part_of (c +ℤ pos needs +ℤ pos short -ℤ pos long) (pos_part c + needs + short) (neg_part c + long)
              (omega (
                arith,
                parts_add c (pos needs),
                parts_add (c +ℤ pos needs) (pos short),
                parts_sub (c +ℤ pos needs +ℤ pos short) (pos long),
                pos_part-pos needs,
                neg_part-pos needs,
                pos_part-pos short,
                neg_part-pos short,
                pos_part-pos long,
                neg_part-pos long,
              )),
          worth_le 0 (pos_part (need_of_afternoon 0 (holding b u 0))) (sold ts id 0 1) (afternoon_need_lem 0),
          worth_le 1 (pos_part (need_of_afternoon 1 (holding b u 1))) (sold ts id 1 1) (afternoon_need_lem 1),
          worth_le 2 (pos_part (need_of_afternoon 2 (holding b u 2))) (sold ts id 2 1) (afternoon_need_lem 2),
        )
