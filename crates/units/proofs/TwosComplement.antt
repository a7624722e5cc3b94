-- Two's complement at any width w. Writing and reading undo each other, and both agree with a number kept + h, where h is half of 2^w. Assumes nothing.
use Rattle.base.specs.Basics.{◌≡◌, refl, sym, ◌∙◌, ap, ℕ, suc, ◌+◌, ◌*◌, ◌-◌, ◌<◌, ◌≤◌, ◌^◌, arith, ℤ, pos, negsuc, sub_ℕ, lt-ltb, le-ltb}
use Rattle.base.specs.Parts.{pos_part, neg_part}
use Rattle.base.proofs.Linear.{by_order, pos_part-pos, neg_part-pos, pos_part_diff, neg_part_diff, diff_cong, eq_parts}
use Rattle.rules.specs.Signed.{signed_of, bits_of}

-- ---- what is read and what is written, by the sign

pub signed_of_low : (w u : ℕ) → 2 * u < 2 ^ w → signed_of w u ≡ pos u
unfolding signed_of
signed_of_low w u l = rw (lt-ltb (2 * u) (2 ^ w) l)

pub signed_of_high : (w u : ℕ) → 2 ^ w ≤ 2 * u → signed_of w u ≡ sub_ℕ u (2 ^ w)
unfolding signed_of
signed_of_high w u l = rw (le-ltb (2 * u) (2 ^ w) l)

pub bits_of_nonneg : (w : ℕ) (z : ℤ) → neg_part z ≡ 0 → bits_of w z ≡ pos_part z
unfolding bits_of pos_part neg_part
bits_of_nonneg w (pos n) e = refl
bits_of_nonneg w (negsuc n) e = absurd (omega arith)

pub bits_of_neg : (w : ℕ) (z : ℤ) → 0 < neg_part z → bits_of w z ≡ 2 ^ w - neg_part z
unfolding bits_of neg_part
bits_of_neg w (pos n) l = absurd (omega arith)
bits_of_neg w (negsuc n) l = refl

-- ---- the two inverses, and the ranges

-- an integer of w bits is read as it was written
pub signed_of_bits_of : (w : ℕ) (z : ℤ) → 2 * pos_part z < 2 ^ w → 2 * neg_part z ≤ 2 ^ w → signed_of w (bits_of w z) ≡ z
unfolding bits_of pos_part neg_part
signed_of_bits_of w (pos n) above below = signed_of_low w n above
signed_of_bits_of w (negsuc n) above below =
    let u : ℕ = 2 ^ w - suc n in
    signed_of_high w u (omega arith) ∙ eq_parts (sub_ℕ u (2 ^ w)) (negsuc n) (omega (arith, pos_part_diff u (2 ^ w), neg_part_diff u (2 ^ w)))

-- and is written in w bits
pub bits_of_lt : (w : ℕ) (z : ℤ) → 2 * pos_part z < 2 ^ w → 2 * neg_part z ≤ 2 ^ w → bits_of w z < 2 ^ w
unfolding bits_of pos_part neg_part
bits_of_lt w (pos n) above below = omega arith
bits_of_lt w (negsuc n) above below = omega arith

-- a number of w bits is written as it was read
pub bits_of_signed_of : (w u : ℕ) → u < 2 ^ w → bits_of w (signed_of w u) ≡ u
bits_of_signed_of w u fits =
    by_order (2 * u) (2 ^ w)
    (λ l. ap (bits_of w) (signed_of_low w u l) ∙ bits_of_nonneg w (pos u) (neg_part-pos u) ∙ pos_part-pos u)
    (λ l. ap (bits_of w) (signed_of_high w u l)
    ∙ bits_of_neg w (sub_ℕ u (2 ^ w)) (omega (arith, neg_part_diff u (2 ^ w)))
    ∙ omega (arith, neg_part_diff u (2 ^ w)))

-- and is read as an integer of w bits
pub pos_part_signed_of_lt : (w u : ℕ) → u < 2 ^ w → 2 * pos_part (signed_of w u) < 2 ^ w
pos_part_signed_of_lt w u fits =
    by_order (2 * u) (2 ^ w)
    (λ l. omega (arith, ap pos_part (signed_of_low w u l), pos_part-pos u))
    (λ l. omega (arith, ap pos_part (signed_of_high w u l), pos_part_diff u (2 ^ w)))

pub neg_part_signed_of_le : (w u : ℕ) → 2 * neg_part (signed_of w u) ≤ 2 ^ w
neg_part_signed_of_le w u =
    by_order (2 * u) (2 ^ w)
    (λ l. omega (arith, ap neg_part (signed_of_low w u l), neg_part-pos u))
    (λ l. omega (arith, ap neg_part (signed_of_high w u l), neg_part_diff u (2 ^ w)))

-- ---- the number kept + h: its bits differ from it in the highest one

module _ (w h : ℕ) (half : 2 * h ≡ 2 ^ w) (u : ℕ) where
  pub signed_of_below : u < h → sub_ℕ (u + h) h ≡ signed_of w u
  signed_of_below l =
      eq_parts (sub_ℕ (u + h) h) (pos u) (omega (arith, pos_part_diff (u + h) h, neg_part_diff (u + h) h, pos_part-pos u, neg_part-pos u))
      ∙ sym (signed_of_low w u (omega arith))

  pub signed_of_from : h ≤ u → sub_ℕ (u - h) h ≡ signed_of w u
  signed_of_from l = diff_cong (u - h) h u (2 ^ w) (omega arith) ∙ sym (signed_of_high w u (omega arith))

  pub bits_of_below : u < h → u + h ≡ bits_of w (sub_ℕ u h)
  bits_of_below l = omega (arith, bits_of_neg w (sub_ℕ u h) (omega (arith, neg_part_diff u h)), neg_part_diff u h)

  pub bits_of_from : h ≤ u → u - h ≡ bits_of w (sub_ℕ u h)
  bits_of_from l = omega (arith, bits_of_nonneg w (sub_ℕ u h) (omega (arith, neg_part_diff u h)), pos_part_diff u h)
