-- Linear facts of integers by `omega`. `omega` knows an integer z by two naturals, `pos_part z` and `neg_part z`. Each operation has one linear law of the
-- parts, to be listed in the call; `eq_parts` turns an equation of integers into one of naturals. So (x + y) − y = x is
--     eq-parts (x +ℤ y -ℤ y) x (omega (arith, parts_add x y, parts-sub (x +ℤ y) y))
-- Assumes nothing.
use Rattle.base.specs.Basics.{◌≡◌, refl, sym, ◌∙◌, ap, Bool, true, false, ℕ, zero, suc, ◌+◌, ◌*◌, ◌-◌, ◌<◌, ◌≤◌, zero-mul, arith, ltb, ℤ, pos, negsuc}
use Rattle.base.specs.Basics.{nat_abs, neg_ℤ, ◌+ℤ◌, ◌-ℤ◌, ◌*ℤ◌, sub_ℕ, lt-ltb, le-ltb, ltb-true, ltb-false}
use Rattle.base.specs.Parts.{pos_part, neg_part}

-- one of two orders
pub by_order : {P : Type 0} (a b : ℕ) → (a < b → P) → (b ≤ a → P) → P
by_order {P} a b f g = go (ltb a b) refl
  where
    go : (t : Bool) → ltb a b ≡ t → P
    go true e = f (ltb-true a b e)
    go false e = g (ltb-false a b e)

-- ---- the parts of a number, of a difference of two naturals, of a negation

pub pos_part-pos : (n : ℕ) → pos_part (pos n) ≡ n
unfolding pos_part
pos_part-pos n = refl

pub neg_part-pos : (n : ℕ) → neg_part (pos n) ≡ 0
unfolding neg_part
neg_part-pos n = refl

pub pos_part_diff : (a b : ℕ) → pos_part (sub_ℕ a b) ≡ a - b
unfolding pos_part
pos_part_diff a b = by_order a b (λ h. rw (lt-ltb a b h) (omega arith)) (λ h. rw (le-ltb a b h))

pub neg_part_diff : (a b : ℕ) → neg_part (sub_ℕ a b) ≡ b - a
unfolding neg_part
neg_part_diff a b = by_order a b (λ h. rw (lt-ltb a b h) (omega arith)) (λ h. rw (le-ltb a b h) (omega arith))

pub pos_part-neg : (x : ℤ) → pos_part (neg_ℤ x) ≡ neg_part x
unfolding pos_part neg_part
pos_part-neg (pos zero) = refl
pos_part-neg (pos (suc n)) = refl
pos_part-neg (negsuc n) = refl

pub neg_part-neg : (x : ℤ) → neg_part (neg_ℤ x) ≡ pos_part x
unfolding pos_part neg_part
neg_part-neg (pos zero) = refl
neg_part-neg (pos (suc n)) = refl
neg_part-neg (negsuc n) = refl

-- ---- an integer that is given by a balance is a difference, and one of its parts is 0

pub pos_part_of : (z : ℤ) (a b : ℕ) → pos_part z + b ≡ a + neg_part z → pos_part z ≡ a - b
unfolding pos_part neg_part
pos_part_of (pos n) a b e = omega arith
pos_part_of (negsuc n) a b e = omega arith

pub neg_part_of : (z : ℤ) (a b : ℕ) → pos_part z + b ≡ a + neg_part z → neg_part z ≡ b - a
unfolding pos_part neg_part
neg_part_of (pos n) a b e = omega arith
neg_part_of (negsuc n) a b e = omega arith

-- ---- sums and differences

pub parts_add : (x y : ℤ) → pos_part (x +ℤ y) + (neg_part x + neg_part y) ≡ pos_part x + pos_part y + neg_part (x +ℤ y)
unfolding pos_part neg_part
parts_add (pos a) (pos b) = omega arith
parts_add (pos a) (negsuc b) = omega (arith, pos_part_diff a (suc b), neg_part_diff a (suc b))
parts_add (negsuc a) (pos b) = omega (arith, pos_part_diff b (suc a), neg_part_diff b (suc a))
parts_add (negsuc a) (negsuc b) = omega arith

pub parts_sub : (x y : ℤ) → pos_part (x -ℤ y) + (neg_part x + pos_part y) ≡ pos_part x + neg_part y + neg_part (x -ℤ y)
parts_sub x y = let p = parts_add x (neg_ℤ y) in omega (arith, pos_part-neg y, neg_part-neg y)

-- ---- equations and orders

pub eq_parts : (x y : ℤ) → pos_part x + neg_part y ≡ pos_part y + neg_part x → x ≡ y
unfolding pos_part neg_part
eq_parts (pos a) (pos b) h = ap pos (omega arith)
eq_parts (pos a) (negsuc b) h = absurd (omega arith)
eq_parts (negsuc a) (pos b) h = absurd (omega arith)
eq_parts (negsuc a) (negsuc b) h = ap negsuc (omega arith)

-- equal differences of naturals
pub diff_cong : (a b c d : ℕ) → a + d ≡ c + b → sub_ℕ a b ≡ sub_ℕ c d
diff_cong a b c d e =
    eq_parts (sub_ℕ a b) (sub_ℕ c d) (omega (arith, pos_part_diff a b, neg_part_diff a b, pos_part_diff c d, neg_part_diff c d))

-- the absolute value
pub abs_parts : (z : ℤ) → nat_abs z ≡ pos_part z + neg_part z
unfolding pos_part neg_part
abs_parts (pos n) = omega arith
abs_parts (negsuc n) = omega arith

-- ---- a multiple by a natural

pub pos_part-mul : (z : ℤ) (k : ℕ) → pos_part (z *ℤ pos k) ≡ pos_part z * k
unfolding pos_part
pos_part-mul (pos n) k = refl
pos_part-mul (negsuc n) k = pos_part-neg (pos (suc n * k)) ∙ neg_part-pos (suc n * k) ∙ sym (zero-mul k)

pub neg_part-mul : (z : ℤ) (k : ℕ) → neg_part (z *ℤ pos k) ≡ neg_part z * k
unfolding neg_part
neg_part-mul (pos n) k = sym (zero-mul k)
neg_part-mul (negsuc n) k = neg_part-neg (pos (suc n * k)) ∙ pos_part-pos (suc n * k)
