-- A position kept with an offset is as defined exactly where position + sold equals physical + bought. Assumes nothing.
use Rattle.base.specs.Basics.{◌≡◌, ◌∙◌, ap, sym, ◌+◌, ℕ, arith, eqb, eqb→eq, ◌+ℤ◌, ◌-ℤ◌, pos, sub_ℕ, ℤ}
use Rattle.base.proofs.Linear.{eq_parts, neg_part_diff, neg_part-pos, parts_add, parts_sub, pos_part_diff, pos_part-pos}
use Rattle.base.specs.Parts.{neg_part, pos_part}
use Rattle.laws.proofs.Positions.{eqb_ℤ_refl, eqb_ℤ→eq}
use Rattle.base.proofs.Tests.{same_test, eqb_of}
use Rattle.rules.specs.Questions.{eqb_ℤ}

-- two tests of equality that say the same
pub same_eqb : (m n p q : ℕ) → (m ≡ n → p ≡ q) → (p ≡ q → m ≡ n) → eqb m n ≡ eqb p q
same_eqb m n p q f g =
    same_test (eqb m n) (eqb p q) (λ t. eqb_of p q (f (eqb→eq m n t))) (λ t. eqb_of m n (g (eqb→eq p q t)))

-- equality of integers by their parts
eqb_ℤ_parts : (x y : ℤ) → eqb_ℤ x y ≡ eqb (pos_part x + neg_part y) (pos_part y + neg_part x)
eqb_ℤ_parts x y =
    same_test (eqb_ℤ x y) (eqb (pos_part x + neg_part y) (pos_part y + neg_part x))
    (λ t. eqb_of (pos_part x + neg_part y) (pos_part y + neg_part x) (let e = eqb_ℤ→eq x y t in omega (arith, ap pos_part e, ap neg_part e)))
    (λ t. rw (eq_parts x y (eqb→eq (pos_part x + neg_part y) (pos_part y + neg_part x) t)) (eqb_ℤ_refl y))

-- a position x and a physical entry h, both kept + z
pub eqb_position : (x h z b s : ℕ) → eqb (x + s) (h + b) ≡ eqb_ℤ (sub_ℕ x z) (sub_ℕ h z +ℤ pos b -ℤ pos s)
eqb_position x h z b s =
    let p = sub_ℕ x z in
    let q = sub_ℕ h z in
    let r = q +ℤ pos b -ℤ pos s in
    same_eqb (x + s) (h + b) (pos_part p + neg_part r) (pos_part r + neg_part p)
    (λ e. omega (arith, e, parts_add q (pos b), parts_sub (q +ℤ pos b) (pos s), pos_part-pos b, neg_part-pos b, pos_part-pos s, neg_part-pos s, parts_diff x z, parts_diff h z))
    (λ e. omega (arith, e, parts_add q (pos b), parts_sub (q +ℤ pos b) (pos s), pos_part-pos b, neg_part-pos b, pos_part-pos s, neg_part-pos s, parts_diff x z, parts_diff h z))
    ∙ sym (eqb_ℤ_parts p r)
  where
    parts_diff : (a c : ℕ) → pos_part (sub_ℕ a c) + c ≡ a + neg_part (sub_ℕ a c)
    parts_diff a c = omega (arith, pos_part_diff a c, neg_part_diff a c)
