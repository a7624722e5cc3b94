-- Records in bytes that are asked for their zero bytes one by one: what was seen and what is left have the whole answer. Over any record. Assumes nothing.
use Rattle.base.specs.Basics.{◌≡◌, refl, sym, ap, ◌∙◌, Bool, true, false, ◌&&◌, List, [], ◌∷◌, ℕ, suc, ◌+◌, ◌*◌, ◌<◌, ◌≤◌, add-one, arith, eqb}
use Rattle.base.specs.Basics.{length, take, drop, drop_of_length-le, drop-cons, drop-drop, eq-eqb, ne_eqb}
use mathlib.Core.Bool.{and-true}
use Rattle.base.specs.Lists.{all}
use Rattle.base.proofs.Every.{all_next, all_none}
use Rattle.fields.specs.Field.{field}
use Rattle.fields.specs.Layout.{records_of}
use Rattle.fields.proofs.Field.{field_part, field-suc, field-zero}
use Rattle.fields.proofs.Records.{length-records_of, get_or-records_of}
use Rattle.book_format.specs.Questions.{parts_of}
use Rattle.book_questions.specs.Zeros.{zeros_in}

-- ---- the records that are left

module _ (len : ℕ) (s : List ℕ) (at n i : ℕ) where
  -- the next one and those after it
  next_part : (a : ℕ) → a ≡ at + len * i → i < n
      → drop i (parts_of len n (drop at s)) ≡ take len (drop a s) ∷ drop (i + 1) (parts_of len n (drop at s))
  unfolding parts_of
  next_part a e h =
      let parts = records_of len (λ (c : List ℕ). c) n (drop at s) in
      let m : i < length parts = rw length-records_of h in
      rw (add-one, drop-cons parts i [] m, get_or-records_of len (λ (c : List ℕ). c) n i (drop at s) [] h, drop-drop, e)

  none_part : n ≤ i → drop i (parts_of len n (drop at s)) ≡ []
  unfolding parts_of
  none_part h = drop_of_length-le (records_of len (λ (c : List ℕ). c) n (drop at s)) {i = i} (rw length-records_of h)

-- where i of n records were looked at: whether all of them had 0 in the field, and those left, have the whole answer
pub record ZerosLeft (width offset len : ℕ) (s : List ℕ) (at n i : ℕ) (seen : Bool) : Type 0 where
  pub answer : zeros_in (λ c. field width offset c) len n (drop at s) ≡ (seen && all (λ c. eqb (field width offset c) 0) (drop i (parts_of len n (drop at s))))

pub and_assoc : (a b c : Bool) → (a && (b && c)) ≡ ((a && b) && c)
and_assoc true b c = refl
and_assoc false b c = refl

module _ {width offset len : ℕ} {s : List ℕ} {at n : ℕ} where
  -- before the first
  pub zeros_start : ZerosLeft width offset len s at n 0 true
  unfolding zeros_in
  zeros_start = record { answer = refl }

  -- the next one, by the test of it
  pub zeros_turn : {i a : ℕ} {seen b : Bool} → ZerosLeft width offset len s at n i seen → a ≡ at + len * i → i < n → offset + width ≤ len → eqb (field width (a + offset) s) 0 ≡ b
      → ZerosLeft width offset len s at n (i + 1) (seen && b)
  zeros_turn {i} {a} {seen} {b} before place h f e =
      let rest = all (λ c. eqb (field width offset c) 0) (drop (i + 1) (parts_of len n (drop at s))) in
      record {
        answer =
            before.answer
            ∙ ap (λ (x : Bool). seen && x)
            (all_next (λ c. eqb (field width offset c) 0) (next_part len s at n i a place h) (ap (λ (x : ℕ). eqb x 0) (field_part width offset a len s f) ∙ e))
            ∙ and_assoc seen b rest;
      }

  -- none is left
  pub zeros_end : {i : ℕ} {seen : Bool} → ZerosLeft width offset len s at n i seen → n ≤ i → seen ≡ zeros_in (λ c. field width offset c) len n (drop at s)
  zeros_end {i} {seen} before h =
      sym (before.answer ∙ ap (λ (x : Bool). seen && x) (all_none (λ c. eqb (field width offset c) 0) (none_part len s at n i h)) ∙ and-true seen)

-- ---- a role and the zero bytes behind it, as one number

module _ (a : ℕ) (s : List ℕ) where
  role_zeros : field 4 (a + 4) s ≡ field 1 (a + 4) s + 256 * field 3 (a + 5) s
  role_zeros =
      let e : suc (a + 4) ≡ a + 5 = omega arith in
      omega (arith, field-suc 3 (a + 4) s, field-suc 0 (a + 4) s, field-zero (suc (a + 4)) s, ap (λ (k : ℕ). field 3 k s) e)

  module _ {role : ℕ} (is : role ≡ field 4 (a + 4) s) where
    -- a number below 2 has zero bytes that are 0
    pub role_yes : role < 2 → eqb (field 3 (a + 5) s) 0 ≡ true
    role_yes h = eq-eqb (field 3 (a + 5) s) 0 (omega (arith, is, role_zeros))

    -- one that is not, of a role that is below 2, has others
    pub role_no : 2 ≤ role → field 1 (a + 4) s < 2 → eqb (field 3 (a + 5) s) 0 ≡ false
    role_no h k = ne_eqb (field 3 (a + 5) s) 0 (λ e. omega (arith, is, role_zeros))
