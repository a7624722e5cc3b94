-- What is kept of the selling tariffs and managers of a book, from its bytes. Assumes nothing.
use Rattle.base.specs.Basics.{◌≡◌, refl, sym, ap, ◌∙◌, Bool, true, false, ◌&&◌, List, ℕ, zero, suc, ◌+◌, ◌-◌, ◌*◌, ◌<◌, ◌≤◌, sub-zero, arith, eqb}
use Rattle.base.specs.Basics.{length, take, drop, length-take, drop-drop}
use Rattle.base.specs.Lists.{all}
use Rattle.fields.specs.Field.{field}
use Rattle.fields.specs.Layout.{records_of}
use Rattle.fields.proofs.Field.{field_part}
use Rattle.rules.specs.Areas.{managers_in, selling_in}
use Rattle.rules.specs.Book.{manager_in}
use Rattle.book_records.specs.User.{managers_at, user_of}
use Rattle.book_records.proofs.Users.{managers_past}
use Rattle.book_format.specs.Book.{book_of, size_of_header, prices_of, selling_tariff_at, trades_at, place_of_user, count_of_users, users_of, version_of}
use Rattle.book_format.specs.Questions.{Formed}
use Rattle.book_format.proofs.Offsets.{header_selling, user_managed, user_plain, users_end, users_there}
use Rattle.conversions.specs.Conversion.{keeps_managers, keeps_tariffs, unmanaged_user}

-- ---- selling tariffs

module _ (v : ℕ) (s : List ℕ) (plain : selling_in v ≡ false) where
  -- a version without them keeps all of a book that has none
  pub tariffs_plain : selling_in (version_of s) ≡ false → true ≡ keeps_tariffs v (book_of s).header.prices
  unfolding keeps_tariffs book_of prices_of selling_tariff_at
  tariffs_plain e = rw (plain, e)

  -- and of one with selling tariffs what has them 0
  pub tariffs_some : selling_in (version_of s) ≡ true → (eqb (field 4 32 s) 0 && eqb (field 4 36 s) 0) ≡ keeps_tariffs v (book_of s).header.prices
  unfolding keeps_tariffs book_of prices_of selling_tariff_at
  tariffs_some e = rw (plain, e)

-- a book with selling tariffs has bytes for them
pub selling_lies : {s : List ℕ} → Formed s → selling_in (version_of s) ≡ true → 40 ≤ length s
unfolding trades_at place_of_user
selling_lies {s} f e = omega (arith, f.whole, header_selling (version_of s) e)

-- ---- managers

-- a record of 56 bytes has none
plain_user : (c : List ℕ) → length c ≤ 56 → unmanaged_user (user_of c) ≡ true
unfolding unmanaged_user user_of manager_in
plain_user c l = rw (managers_past c l)

plain_users : (n : ℕ) (s : List ℕ) → all unmanaged_user (records_of 56 user_of n s) ≡ true
unfolding records_of all
plain_users zero s = refl
plain_users (suc n) s = rw (plain_user (take 56 s) (rw length-take (omega arith)), plain_users n (drop 56 s))

-- so a version without managers keeps all of a book that has none
pub managers_plain : (v : ℕ) (s : List ℕ) → managers_in v ≡ false → managers_in (version_of s) ≡ false → true ≡ keeps_managers v (book_of s).users
unfolding keeps_managers book_of users_of
managers_plain v s plain e = rw (plain, user_plain (version_of s) e) (sym (plain_users (count_of_users s) (drop (size_of_header (version_of s)) s)))

-- and of one with managers what has no managed user
module _ (v : ℕ) (s : List ℕ) (plain : managers_in v ≡ false) (own : managers_in (version_of s) ≡ true) where
  pub managers_some : {at n : ℕ} {r : Bool} → at ≡ size_of_header (version_of s) → n ≡ count_of_users s → r ≡ all unmanaged_user (records_of 68 user_of n (drop at s)) → r ≡ keeps_managers v (book_of s).users
  unfolding keeps_managers book_of
  managers_some begin count e =
      e ∙ ap (all unmanaged_user) (users_there s begin (sym (user_managed (version_of s) own)) count) ∙ sym (rw plain)

-- which has bytes for them
pub managers_lie : {s : List ℕ} {at n : ℕ} → Formed s → managers_in (version_of s) ≡ true → at ≡ size_of_header (version_of s) → n ≡ count_of_users s → at + 68 * n ≤ length s
managers_lie {s} f e begin count = omega (arith, f.whole, users_end s begin (sym (user_managed (version_of s) e)) count)

-- ---- the walk over the users

-- where none of the first i of n users is managed: those that are left give the answer
pub record Walk (s : List ℕ) (at n i a : ℕ) : Type 0 where
  pub within : i ≤ n
  pub place : a ≡ at + 68 * i
  pub answer : all unmanaged_user (records_of 68 user_of (n - i) (drop a s)) ≡ all unmanaged_user (records_of 68 user_of n (drop at s))

-- a user's managers where they stand
managers_there : (s : List ℕ) (a : ℕ) → (eqb (field 4 (a + 56) s) 0 && (eqb (field 4 (a + 60) s) 0 && eqb (field 4 (a + 64) s) 0)) ≡ unmanaged_user (user_of (take 68 (drop a s)))
unfolding unmanaged_user user_of managers_at manager_in
managers_there s a =
    sym (rw (field_part 4 56 a 68 s (omega arith), field_part 4 60 a 68 s (omega arith), field_part 4 64 a 68 s (omega arith)))

module _ {s : List ℕ} {at n : ℕ} where
  pub walk_start : Walk s at n 0 at
  walk_start = record { within = omega arith; place = omega arith; answer = rw sub-zero }

  -- the answer by the next user
  next : {i a : ℕ} → Walk s at n i a → i < n
      → (unmanaged_user (user_of (take 68 (drop a s))) && all unmanaged_user (records_of 68 user_of (n - (i + 1)) (drop (a + 68) s))) ≡ all unmanaged_user (records_of 68 user_of n (drop at s))
  unfolding records_of all
  next {i} {a} w h =
      let e : n - i ≡ suc (n - (i + 1)) = omega arith in
      ap (λ (d : List ℕ). unmanaged_user (user_of (take 68 (drop a s))) && all unmanaged_user (records_of 68 user_of (n - (i + 1)) d)) (sym (drop-drop 68 a s))
      ∙ (rw e at w.answer)

  pub walk_turn : {i a : ℕ} → Walk s at n i a → i < n → (eqb (field 4 (a + 56) s) 0 && (eqb (field 4 (a + 60) s) 0 && eqb (field 4 (a + 64) s) 0)) ≡ true → Walk s at n (i + 1) (a + 68)
  walk_turn {i} {a} w h t =
      record {
        within = omega arith;
        place = omega (arith, w.place);
        answer = rw (sym (managers_there s a) ∙ t) at (next w h);
      }

  pub walk_stop : {i a : ℕ} → Walk s at n i a → i < n → (eqb (field 4 (a + 56) s) 0 && (eqb (field 4 (a + 60) s) 0 && eqb (field 4 (a + 64) s) 0)) ≡ false → false ≡ all unmanaged_user (records_of 68 user_of n (drop at s))
  walk_stop {i} {a} w h t = rw (sym (managers_there s a) ∙ t) at (next w h)

  pub walk_end : {i a : ℕ} → Walk s at n i a → n ≤ i → true ≡ all unmanaged_user (records_of 68 user_of n (drop at s))
  unfolding records_of all
  walk_end {i} {a} w h =
      let e : n - i ≡ 0 = omega arith in
      rw e at w.answer
