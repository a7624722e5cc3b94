-- Needs as differences of naturals, never below 0. Assumes nothing.
use Rattle.base.specs.Basics.{◌≡◌, ℕ, ◌+◌, ◌-◌, arith, pos, neg_ℤ, ◌+ℤ◌, ◌-ℤ◌}
use Rattle.base.specs.Parts.{pos_part, neg_part}
use Rattle.base.proofs.Linear.{pos_part_of, pos_part-pos, neg_part-pos, pos_part-neg, neg_part-neg, parts_add, parts_sub}
use Rattle.rules.specs.Levels.{Holding, need_of_morning, stock, need_of_afternoon}

-- −physical + sold − bought over d and d+1
pub morning_need_of : (h : Holding)
    → pos_part (need_of_morning h) ≡ neg_part h.physical + (h.sold + h.sold_next) - (pos_part h.physical + (h.bought + h.bought_next))
unfolding need_of_morning
morning_need_of h =
    let p = h.physical in
    let x = h.sold + h.sold_next in
    let y = h.bought + h.bought_next in
    pos_part_of (neg_ℤ p +ℤ pos x -ℤ pos y) (neg_part p + x) (pos_part p + y)
    (omega (arith, parts_add (neg_ℤ p) (pos x), parts_sub (neg_ℤ p +ℤ pos x) (pos y), pos_part-neg p, neg_part-neg p, pos_part-pos x, neg_part-pos x, pos_part-pos y, neg_part-pos y))

-- sold − bought for d+1, minus the stock
pub afternoon_need_of : (area : ℕ) (h : Holding) → pos_part (need_of_afternoon area h) ≡ h.sold_next - (h.bought_next + stock area h)
unfolding need_of_afternoon
afternoon_need_of area h =
    let x = h.sold_next in
    let y = h.bought_next in
    let z = stock area h in
    pos_part_of (pos x -ℤ pos y -ℤ pos z) x (y + z)
    (omega (arith, parts_sub (pos x) (pos y), parts_sub (pos x -ℤ pos y) (pos z), pos_part-pos x, neg_part-pos x, pos_part-pos y, neg_part-pos y, pos_part-pos z, neg_part-pos z))
