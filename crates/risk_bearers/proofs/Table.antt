-- Who bears whose risk, read of the records of a book: the ids, the manager in an area, the place of either. Assumes nothing.
use Rattle.base.specs.Basics.{◌≡◌, refl, sym, ap, subst, ◌∙◌, Bool, true, List, ℕ, zero, suc, ◌+◌, ◌*◌, ◌-◌, ◌≤◌, ◌<◌, arith, T, eqb→eq, length, take}
use Rattle.base.specs.Basics.{drop, get_or, set, replicate, length-set, length-replicate, get_or-set_other, get_or-set_same, eq-eqb}
use Rattle.base.specs.Basics.{ne_eqb}
use Rattle.base.proofs.Linear.{by_order}
use Rattle.base.proofs.Tests.{of_three}
use Rattle.book_format.proofs.Held.{accepted_ids}
use Rattle.book_format.proofs.Passed.{length-users_of}
use Rattle.book_format.proofs.Places.{user_field, user_is}
use Rattle.book_format.proofs.Offsets.{user_managed}
use Rattle.book_format.specs.Book.{place_of_user, count_of_users, size_of_user, users_of, version_of}
use Rattle.book_format.specs.Held.{Accepted}
use Rattle.book_format.specs.Places.{UserIn}
use Rattle.book_parties.proofs.Rising.{rising_ids}
use Rattle.book_parties.specs.Ids.{id_at, ids_of, place_in}
use Rattle.book_records.specs.User.{managers_at, user_of}
use Rattle.fields.proofs.Field.{field_part}
use Rattle.fields.specs.Field.{field}
use Rattle.rules.specs.Areas.{managers_in}
use Rattle.rules.specs.Bearers.{bearer}
use Rattle.rules.specs.Book.{User, manager_in, nobody}
use Rattle.fields.proofs.Sets.{rest_set}
use Rattle.book_questions.proofs.Loops.{Listed, listed_end, listed_start, listed_turn}
use Rattle.risk_bearers.proofs.Places.{place_is}
use Rattle.risk_bearers.specs.Bearers.{BearersOf, IdsOf}

-- ---- the ids

-- the first i are listed, and the rest is padding
pub record IdsTo (us : List User) (ids : List ℕ) (i : ℕ) : Type 0 where
  pub listed : Listed (λ u. u.party.id) us 64 ids i
  pub rest : drop i ids ≡ replicate (64 - i) 4294967295

pub ids_start : (us : List User) {ids : List ℕ} → ids ≡ replicate 64 4294967295 → IdsTo us ids 0
ids_start us e = record { listed = listed_start (ap length e ∙ length-replicate {A = ℕ} 64 4294967295); rest = e }

pub ids_more : (s : List ℕ) {ids : List ℕ} {i x a : ℕ} → UserIn s i → count_of_users s ≤ 64 → a ≡ place_of_user s i → x ≡ field 4 a s → IdsTo (users_of s) ids i → IdsTo (users_of s) (set ids i x) (i + 1)
unfolding user_of
ids_more s {ids} {i} {x} p few e f t =
    record {
      listed = listed_turn nobody t.listed (omega (arith, length-users_of s, p.inside)) (omega (arith, p.inside, few))
          (f ∙ ap (λ (j : ℕ). field 4 j s) (e ∙ omega arith) ∙ user_field p 4 0 (λ u. u.party.id) (λ n. n) (omega arith) (λ c. refl));
      rest = rest_set 64 i 4294967295 x ids t.rest;
    }

pub ids_end : (s : List ℕ) {ids : List ℕ} {n i : ℕ} → Accepted s → n ≡ count_of_users s → i ≡ n → IdsTo (users_of s) ids i → IdsOf (users_of s) n ids
unfolding ids_of
ids_end s {ids} {n} {i} a many e t =
    let all : take n ids ≡ ids_of (users_of s) = subst (λ (k : ℕ). take k ids ≡ ids_of (users_of s)) e (listed_end t.listed (omega (arith, length-users_of s))) in
    record {
      padded = record {
        full = t.listed.full;
        few = omega (arith, many, a.held.form.users);
        rising = rw all (rising_ids (users_of s) (accepted_ids a));
        rest = subst (λ (k : ℕ). drop k ids ≡ replicate (64 - k) 4294967295) e t.rest;
      };
      listed = all;
    }

-- ---- the manager in an area

module _ {s : List ℕ} {place : ℕ} (p : UserIn s place) (managed : managers_in (version_of s) ≡ true) where
  pub manager_is : {area a : ℕ} → area < 3 → a ≡ place_of_user s place → field 4 (a + (56 + 4 * area)) s ≡ manager_in (get_or (users_of s) place nobody).party.managers area
  unfolding user_of managers_at manager_in
  manager_is {area} {a} l e =
      let size : size_of_user (version_of s) ≡ 68 = user_managed (version_of s) managed in
      let c = take (size_of_user (version_of s)) (drop (place_of_user s place) s) in
      ap (λ (i : ℕ). field 4 (i + (56 + 4 * area)) s) e
      ∙ sym (field_part 4 (56 + 4 * area) (place_of_user s place) (size_of_user (version_of s)) s (omega (arith, size)))
      ∙ read c area l
      ∙ ap (λ (u : User). manager_in u.party.managers area) (user_is p)
    where
      read : (c : List ℕ) (area : ℕ) → area < 3 → field 4 (56 + 4 * area) c ≡ manager_in (user_of c).party.managers area
      read c zero h = refl
      read c (suc zero) h = refl
      read c (suc (suc zero)) h = refl
      read c (suc (suc (suc area))) h = absurd (omega arith)

-- ---- who bears the risk

module _ (s : List ℕ) (a : Accepted s) {i : ℕ} (h : i < count_of_users s) (area : ℕ) {id : ℕ} (is : id ≡ manager_in (get_or (users_of s) i nobody).party.managers area) where
  -- without a manager it is the user itself
  pub bearer_self : id ≡ 0 → i ≡ place_in (ids_of (users_of s)) (bearer (get_or (users_of s) i nobody) area)
  unfolding bearer
  bearer_self z =
      let us = users_of s in
      let own : place_in (ids_of us) (id_at us i) ≡ i = eqb→eq (place_in (ids_of us) (id_at us i)) i (subst (λ (c : Bool). T c) (sym (place_is us (accepted_ids a) i (id_at us i) (omega (arith, length-users_of s)) ∙ eq-eqb (id_at us i) (id_at us i) refl)) tt) in
      sym own ∙ ap (place_in (ids_of us)) (rw (eq-eqb (manager_in (get_or us i nobody).party.managers area) 0 (sym is ∙ z)) refl)

  pub bearer_manager : (id ≡ 0 → ⊥) → {r : ℕ} → r ≡ place_in (ids_of (users_of s)) id → r ≡ place_in (ids_of (users_of s)) (bearer (get_or (users_of s) i nobody) area)
  unfolding bearer
  bearer_manager n e =
      let us = users_of s in
      e ∙ ap (place_in (ids_of us)) (is ∙ rw (ne_eqb (manager_in (get_or us i nobody).party.managers area) 0 (λ z. n (is ∙ z))) refl)

-- ---- user by user

-- three numbers of each user, filled in from the front: one user more
pub three_more : (P : ℕ → ℕ → ℕ → Type 0) (xs : List ℕ) (i x y z : ℕ) → 3 * i + 2 < length xs → ((j area : ℕ) → j < i → area < 3 → P j area (get_or xs (3 * j + area) 0))
    → P i 0 x → P i 1 y → P i 2 z → (j area : ℕ) → j < i + 1 → area < 3 → P j area (get_or (set (set (set xs (3 * i) x) (3 * i + 1) y) (3 * i + 2) z) (3 * j + area) 0)
three_more P xs i x y z room before ex ey ez j area h k =
    let one = set xs (3 * i) x in
    let two = set one (3 * i + 1) y in
    let long : length one ≡ length xs = length-set xs (3 * i) x in
    let first : 3 * i + 0 ≡ 3 * i = omega arith in
    by_order j i
    (λ m. rw (get_or-set_other two (3 * i + 2) (3 * j + area) z 0 (λ e. omega arith), get_or-set_other one (3 * i + 1) (3 * j + area) y 0 (λ e. omega arith), get_or-set_other xs (3 * i) (3 * j + area) x 0 (λ e. omega arith)) (before j area m k))
    (λ m.
    let e : i ≡ j = omega arith in
    subst (λ (n : ℕ). P n area (get_or (set two (3 * i + 2) z) (3 * n + area) 0)) e
    (of_three (λ (a : ℕ). P i a (get_or (set two (3 * i + 2) z) (3 * i + a) 0))
    (rw (first, get_or-set_other two (3 * i + 2) (3 * i) z 0 (λ e. omega arith), get_or-set_other one (3 * i + 1) (3 * i) y 0 (λ e. omega arith), get_or-set_same xs (3 * i) x 0 (omega arith)) ex)
    (rw (get_or-set_other two (3 * i + 2) (3 * i + 1) z 0 (λ e. omega arith), get_or-set_same one (3 * i + 1) y 0 (omega arith)) ey)
    (rw (get_or-set_same two (3 * i + 2) z 0 (omega (arith, length-set one (3 * i + 1) y))) ez) area k))

pub three_length : (xs : List ℕ) (a b c x y z : ℕ) → length (set (set (set xs a x) b y) c z) ≡ length xs
three_length xs a b c x y z = rw (length-set, length-set, length-set)

pub record BearersTo (us : List User) (i : ℕ) (table : List ℕ) : Type 0 where
  pub room : length table ≡ 192
  pub each : (j area : ℕ) → j < i → area < 3 → get_or table (3 * j + area) 0 ≡ place_in (ids_of us) (bearer (get_or us j nobody) area)

pub bearers_more : (us : List User) {i : ℕ} {table : List ℕ} (x y z : ℕ) → i < 64 → BearersTo us i table
    → x ≡ place_in (ids_of us) (bearer (get_or us i nobody) 0) → y ≡ place_in (ids_of us) (bearer (get_or us i nobody) 1) → z ≡ place_in (ids_of us) (bearer (get_or us i nobody) 2)
    → BearersTo us (i + 1) (set (set (set table (3 * i) x) (3 * i + 1) y) (3 * i + 2) z)
bearers_more us {i} {table} x y z l p ex ey ez =
    record {
      room = three_length table (3 * i) (3 * i + 1) (3 * i + 2) x y z ∙ p.room;
      each = three_more (λ j area n. n ≡ place_in (ids_of us) (bearer (get_or us j nobody) area)) table i x y z (omega (arith, p.room)) p.each ex ey ez;
    }

pub bearers_end : (s : List ℕ) {i : ℕ} {table : List ℕ} → count_of_users s ≤ i → BearersTo (users_of s) i table → BearersOf (users_of s) table
bearers_end s h p = record { room = p.room; each = λ j area l k. p.each j area (omega (arith, length-users_of s)) k }
