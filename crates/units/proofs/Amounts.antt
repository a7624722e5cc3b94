-- The parts of a signed amount that is kept with an offset, and the tests of a range, as linear facts for `omega`. Assumes nothing.
use Rattle.base.specs.Basics.{◌≡◌, refl, sym, ◌∙◌, ap, true, false, ◌&&◌, ℕ, ◌+◌, ◌-◌, ◌<◌, ◌≤◌, ◌^◌, arith, leb, ℤ, pos, nat_abs, ◌+ℤ◌}
use Rattle.base.specs.Basics.{◌-ℤ◌, sub_ℕ, le-leb, lt-leb, leb-true}
use Rattle.base.specs.Parts.{pos_part, neg_part}
use Rattle.base.proofs.Linear.{by_order, pos_part_diff, neg_part_diff, eq_parts, parts_add, parts_sub, abs_parts}
use Rattle.rules.specs.Signed.{within}
use Rattle.units.specs.declared.Net.{Net}
use Rattle.units.specs.declared.Balance.{Balance}
use Rattle.units.specs.Amounts.{net, balance}

-- ---- the parts

pub pos_part-net : (x : Net) → pos_part (net x) ≡ x.0 - 2 ^ 31
unfolding net
pos_part-net x = pos_part_diff x.0 (2 ^ 31)

pub neg_part-net : (x : Net) → neg_part (net x) ≡ 2 ^ 31 - x.0
unfolding net
neg_part-net x = neg_part_diff x.0 (2 ^ 31)

pub pos_part-balance : (x : Balance) → pos_part (balance x) ≡ x.0 - 2 ^ 63
unfolding balance
pos_part-balance x = pos_part_diff x.0 (2 ^ 63)

pub neg_part-balance : (x : Balance) → neg_part (balance x) ≡ 2 ^ 63 - x.0
unfolding balance
neg_part-balance x = neg_part_diff x.0 (2 ^ 63)

-- the same without a difference of naturals
pub parts_net : (x : Net) → pos_part (net x) + 2 ^ 31 ≡ x.0 + neg_part (net x)
parts_net x = omega (arith, pos_part-net x, neg_part-net x)

-- an energy is the integer whose parts balance it
pub net-eq : (x : Net) (z : ℤ) → pos_part z + 2 ^ 31 ≡ x.0 + neg_part z → net x ≡ z
net-eq x z e = eq_parts (net x) z (omega (arith, parts_net x))

-- the amounts that are 0
pub net-zero : net (record { 0 = 2 ^ 31 }) ≡ pos 0
unfolding net
net-zero = refl

-- ---- a range of ±n

pub within-true : (n : ℕ) (z : ℤ) → within n z ≡ true → pos_part z + neg_part z ≤ n
unfolding within
within-true n z h = omega (arith, leb-true (nat_abs z) n h, abs_parts z)

pub le-within : (n : ℕ) (z : ℤ) → pos_part z + neg_part z ≤ n → within n z ≡ true
unfolding within
le-within n z h = le-leb (nat_abs z) n (omega (arith, abs_parts z))

pub lt-within : (n : ℕ) (z : ℤ) → n < pos_part z + neg_part z → within n z ≡ false
unfolding within
lt-within n z h = lt-leb (nat_abs z) n (omega (arith, abs_parts z))

-- of a number x kept + h: the range is two tests of x, and bounds it
pub within_offset : (n h x : ℕ) → n ≤ h → leb (h - n) x && leb x (h + n) ≡ within n (sub_ℕ x h)
within_offset n h x small =
    let p = pos_part_diff x h in
    let q = neg_part_diff x h in
    by_order x (h - n)
    (λ l. rw (lt-leb (h - n) x l) (sym (lt-within n (sub_ℕ x h) (omega arith))))
    (λ g. rw (le-leb (h - n) x g)
    (by_order (h + n) x
    (λ l. lt-leb x (h + n) l ∙ sym (lt-within n (sub_ℕ x h) (omega arith)))
    (λ l. le-leb x (h + n) l ∙ sym (le-within n (sub_ℕ x h) (omega arith)))))

pub offset_bounds : (n h x : ℕ) → within n (sub_ℕ x h) ≡ true → (h ≤ x + n) × (x ≤ h + n)
offset_bounds n h x e = omega (arith, within-true n (sub_ℕ x h) e, pos_part_diff x h, neg_part_diff x h)

pub net_bounds : (n : ℕ) (x : Net) → within n (net x) ≡ true → (2 ^ 31 ≤ x.0 + n) × (x.0 ≤ 2 ^ 31 + n)
unfolding net
net_bounds n x e = offset_bounds n (2 ^ 31) x.0 e

-- ---- what moves by the difference of two amounts moves by what was added to one of them
pub add_difference : (x old new amount : ℤ) → new ≡ old +ℤ amount → x +ℤ (new -ℤ old) ≡ x +ℤ amount
add_difference x old new amount e =
    eq_parts (x +ℤ (new -ℤ old)) (x +ℤ amount)
    (omega
    (arith, parts_add x (new -ℤ old), parts_sub new old, parts_add x amount, parts_add old amount, ap pos_part e, ap neg_part e))
