-- A walk over records in bytes: the record at hand, and a test of each of which those that are left have the whole answer. Assumes nothing.
use Rattle.base.specs.Basics.{◌≡◌, refl, sym, ap, ◌∙◌, Bool, true, false, ◌&&◌, List, ℕ, ◌+◌, ◌-◌, ◌*◌, ◌≤◌, ◌<◌, add-one, mul-zero, arith, length}
use Rattle.base.specs.Basics.{take, drop, get_or, drop_of_length-le, drop-cons, drop-drop}
use Rattle.base.specs.Lists.{all}
use Rattle.fields.specs.Layout.{records_of}
use Rattle.fields.proofs.Records.{get_or-records_of}
use Rattle.base.proofs.Every.{all_next, all_none}
use Rattle.book_format.proofs.Offsets.{size_lies, size_next}
use Rattle.book_format.proofs.Places.{take_front}
use Rattle.book_records.proofs.Users.{user_of_front}
use Rattle.book_records.specs.User.{alone, user_of}
use Rattle.rules.specs.Book.{User}

-- what was read from the part at the i-th offset is the i-th record
pub record_at : {R : Type 0} (len : ℕ) (one : List ℕ → R) (s : List ℕ) (at n i : ℕ) {a : ℕ} {r : R} (d : R) → a ≡ at + len * i → i < n
    → r ≡ one (take (a + len - a) (drop a s)) → r ≡ get_or (records_of len one n (drop at s)) i d
record_at len one s at n i {a} d place h e =
    let l : a + len - a ≡ len = omega arith in
    (rw (l, place) at e) ∙ sym (rw drop-drop at (get_or-records_of len one n i (drop at s) d h))

-- what was read from the first 56 bytes at the i-th offset is the i-th user, without its managers
pub user_at_lem : (size : ℕ) (s : List ℕ) (at n i : ℕ) {a : ℕ} {u : User} (d : User) → 56 ≤ size → a ≡ at + size * i → i < n
    → u ≡ user_of (take (a + 56 - a) (drop a s)) → u ≡ alone (get_or (records_of size user_of n (drop at s)) i d)
user_at_lem size s at n i {a} d wide place h e =
    let l : a + 56 - a ≡ 56 = omega arith in
    let part = drop (at + size * i) s in
    (rw (l, place) at e)
    ∙ ap user_of (sym (take_front 56 size part wide))
    ∙ user_of_front (take size part)
    ∙ ap alone (sym (rw drop-drop at (get_or-records_of size user_of n i (drop at s) d h)))

-- a record lies among those before its end
pub record_lies : (size at n i : ℕ) {a len : ℕ} → 56 ≤ size → a ≡ at + size * i → i < n → at + size * n ≤ len → (a + 56 ≤ len) × (a + size ≤ len)
record_lies size at n i wide place h l = let k = size_lies size i n h in (omega arith, omega arith)

-- the first one's offset
pub record_first : (size at : ℕ) → at ≡ at + size * 0
record_first size at = omega (arith, mul-zero size)

-- the next one's
pub record_next : (size at i : ℕ) {a : ℕ} → a ≡ at + size * i → a + size ≡ at + size * (i + 1)
record_next size at i place = omega (arith, size_next size i)

-- where i records of a list passed a test: those that are left have the whole answer
pub record Passed {A : Type 0} (p : A → Bool) (xs : List A) (i : ℕ) : Type 0 where
  pub within : i ≤ length xs
  pub answer : all p xs ≡ all p (drop i xs)

module _ {A : Type 0} {p : A → Bool} {xs : List A} where
  -- before the first
  pub passed_start : Passed p xs 0
  passed_start = record { within = omega arith; answer = refl }

  -- by the test of the next one
  passed_next : {i : ℕ} (d : A) {b : Bool} → Passed p xs i → i < length xs → p (get_or xs i d) ≡ b → all p xs ≡ (b && all p (drop (i + 1) xs))
  passed_next {i} d before h e = before.answer ∙ all_next p (rw add-one (drop-cons xs i d h)) e

  -- it does not pass
  pub passed_no : {i : ℕ} (d : A) → Passed p xs i → i < length xs → p (get_or xs i d) ≡ false → false ≡ all p xs
  passed_no d before h e = sym (passed_next d before h e)

  -- it passes
  pub passed_turn : {i : ℕ} (d : A) → Passed p xs i → i < length xs → p (get_or xs i d) ≡ true → Passed p xs (i + 1)
  passed_turn d before h e = record { within = omega arith; answer = passed_next d before h e }

  -- none is left
  pub passed_end : {i : ℕ} → Passed p xs i → length xs ≤ i → true ≡ all p xs
  passed_end {i} before h = sym (before.answer ∙ all_none p (drop_of_length-le xs {i = i} h))
