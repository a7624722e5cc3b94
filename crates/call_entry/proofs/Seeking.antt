-- Laws of the walk over users in bytes that seeks an id: the place among those that are left, behind those passed, is the place among all. Assumes nothing.
use mathlib.Core.Bool.{Bool, cond}
use mathlib.Core.List.{List}
use mathlib.Core.Path.{◌≡◌, ◌∙◌, ap, refl, sym}
use Prim.Native.Nat.{ℕ, suc, ◌+◌, ◌-◌, ◌<◌, ◌≤◌}
use native.Mathlib.Nat.{mul-zero, sub-zero}
use native.Mathlib.Omega.{arith}
use lib.Dec.{eqb}
use lib.ListN.{drop}
use lib.Seq.{drop-drop}
use borrow.Author.Tests.{eq-eqb, ne_eqb}
use Rattle.fields.proofs.Field.{field_part}
use Rattle.fields.specs.Field.{field}
use Rattle.fields.specs.Layout.{records_of}
use Rattle.book_format.proofs.Offsets.{user_next, user_range, user-there, users_there}
use Rattle.book_format.specs.Book.{size_of_header, place_of_user, count_of_users, size_of_user, users_of, version_of}
use Rattle.book_format.specs.Steps.{place_of}
use Rattle.book_records.specs.User.{user_of}

-- where i of n users have another id: the next one stands at a, and the place among those left, behind i, is the place among all
pub record Seeking (s : List ℕ) (id n i a : ℕ) : Type 0 where
  pub place : a ≡ place_of_user s i
  pub within : i ≤ n
  pub count : n ≡ count_of_users s
  pub answer : place_of (users_of s) id ≡ i + place_of (records_of (size_of_user (version_of s)) user_of (n - i) (drop a s)) id

module _ {s : List ℕ} {id n : ℕ} where
  -- before the first
  pub seeking_start : {a : ℕ} → a ≡ size_of_header (version_of s) → n ≡ count_of_users s → Seeking s id n 0 a
  seeking_start {a} begin e =
      let k : place_of (users_of s) id ≡ place_of (records_of (size_of_user (version_of s)) user_of (n - 0) (drop a s)) id = rw (sub-zero, users_there s begin refl e) in
      record { place = omega (arith, mul-zero (size_of_user (version_of s)), user-there s 0 begin refl); within = omega arith; count = e; answer = omega (arith, k) }

  -- by the test of the next one
  seeking_next : {i a : ℕ} {b : Bool} → Seeking s id n i a → i < n → eqb (field 4 a s) id ≡ b
      → place_of (users_of s) id ≡ i + cond {A = ℕ} b 0 (suc (place_of (records_of (size_of_user (version_of s)) user_of (n - (i + 1)) (drop (a + size_of_user (version_of s)) s)) id))
  unfolding records_of place_of user_of
  seeking_next {i} {a} before h e =
      let m : n - i ≡ suc (n - (i + 1)) = omega arith in
      let z : a + 0 ≡ a = omega arith in
      before.answer ∙ rw (m, field_part 4 0 a (size_of_user (version_of s)) s (omega (arith, user_range (version_of s))), z, drop-drop, e)

  -- it has the id
  pub seeking_here : {i a : ℕ} (x : ℕ) → Seeking s id n i a → i < n → x ≡ field 4 a s → x ≡ id → i ≡ place_of (users_of s) id
  seeking_here {i} x before h e k = omega (arith, seeking_next before h (ap (λ (y : ℕ). eqb y id) (sym e) ∙ eq-eqb x id k))

  -- it has another
  pub seeking_turn : {i a : ℕ} (x : ℕ) → Seeking s id n i a → i < n → x ≡ field 4 a s → (x ≡ id → ⊥) → Seeking s id n (i + 1) (a + size_of_user (version_of s))
  seeking_turn {i} x before h e k =
      record {
        place = omega (arith, before.place, user_next s i);
        within = omega arith;
        count = before.count;
        answer = omega (arith, seeking_next before h (ap (λ (y : ℕ). eqb y id) (sym e) ∙ ne_eqb x id k));
      }

  -- none is left
  pub seeking_end : {i a : ℕ} → Seeking s id n i a → n ≤ i → n ≡ place_of (users_of s) id
  unfolding records_of place_of
  seeking_end {i} {a} before h =
      let e : i ≡ n = omega (arith, before.within) in
      let z : n - n ≡ 0 = omega arith in
      omega (arith, rw (e, z) at before.answer)
