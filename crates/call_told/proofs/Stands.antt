-- A user whose record is read: is it of an id, or its risk borne by who is? Assumes nothing.
use Rattle.base.specs.Basics.{◌≡◌, ◌∙◌, ap, refl, sym, Bool, true, false, cond, ◌||◌, List, ℕ, zero, suc, ◌+◌, ◌<◌, arith, eqb, drop, get_or}
use Rattle.base.specs.Basics.{length-take, take, eq-eqb, eqb-true, ne_eqb}
use Rattle.fields.proofs.Field.{field_part}
use Rattle.fields.specs.Field.{field}
use Rattle.book_format.proofs.Offsets.{user_plain, user_range}
use Rattle.book_format.proofs.Places.{user_is}
use Rattle.book_format.specs.Book.{place_of_user, size_of_user, users_of, version_of}
use Rattle.book_format.specs.Places.{UserIn}
use Rattle.book_records.proofs.Users.{managers_past}
use Rattle.book_records.specs.User.{user_of}
use Rattle.rules.specs.Areas.{managers_in}
use Rattle.rules.specs.Bearers.{bearer}
use Rattle.rules.specs.Book.{User, manager_in, nobody, unmanaged}
use Rattle.call_told.specs.Seen.{stands_for}

module _ {s : List ℕ} {place : ℕ} (p : UserIn s place) where
  -- ---- what is read

  pub id_is : {a : ℕ} → a ≡ place_of_user s place → field 4 a s ≡ (get_or (users_of s) place nobody).party.id
  unfolding user_of
  id_is {a} e =
      let k : place_of_user s place ≡ place_of_user s place + 0 = omega arith in
      ap (λ (i : ℕ). field 4 i s) (e ∙ k)
      ∙ sym (field_part 4 0 (place_of_user s place) (size_of_user (version_of s)) s (omega (arith, user_range (version_of s))))
      ∙ ap (λ (u : User). u.party.id) (user_is p)

  -- a version without managers has none
  manager_none : managers_in (version_of s) ≡ false → (area : ℕ) → manager_in (get_or (users_of s) place nobody).party.managers area ≡ 0
  unfolding user_of manager_in
  manager_none none area =
      ap (λ (u : User). manager_in u.party.managers area) (sym (user_is p))
      ∙ rw (managers_past (take (size_of_user (version_of s)) (drop (place_of_user s place) s)) (rw length-take (omega (arith, user_plain (version_of s) none)))) (zero_in area)
    where
      zero_in : (area : ℕ) → manager_in unmanaged area ≡ 0
      zero_in zero = refl
      zero_in (suc zero) = refl
      zero_in (suc (suc area)) = refl

  -- ---- who it stands for

  module _ (party area : ℕ) {a : ℕ} (e : a ≡ place_of_user s place) where
    pub stands_own : field 4 a s ≡ party → true ≡ stands_for party area (get_or (users_of s) place nobody)
    unfolding stands_for
    stands_own h = rw (eq-eqb (get_or (users_of s) place nobody).party.id party (sym (id_is e) ∙ h))

    module _ (other : field 4 a s ≡ party → ⊥) where
      -- then by its manager
      stands_bearer : eqb (bearer (get_or (users_of s) place nobody) area) party ≡ stands_for party area (get_or (users_of s) place nobody)
      unfolding stands_for
      stands_bearer = rw (ne_eqb (get_or (users_of s) place nobody).party.id party (λ z. other (id_is e ∙ z)))

      pub stands_plain : managers_in (version_of s) ≡ false → false ≡ stands_for party area (get_or (users_of s) place nobody)
      unfolding bearer
      stands_plain none =
          sym (rw (manager_none none area) (ne_eqb (get_or (users_of s) place nobody).party.id party (λ z. other (id_is e ∙ z)))) ∙ stands_bearer

      pub stands_managed : {manager : ℕ} → manager ≡ manager_in (get_or (users_of s) place nobody).party.managers area → 0 < party
          → eqb manager party ≡ stands_for party area (get_or (users_of s) place nobody)
      unfolding bearer
      stands_managed {manager} m h = go (eqb (manager_in (get_or (users_of s) place nobody).party.managers area) 0) refl ∙ stands_bearer
        where
          own : ℕ
          own = (get_or (users_of s) place nobody).party.id

          go : (c : Bool) → eqb (manager_in (get_or (users_of s) place nobody).party.managers area) 0 ≡ c → eqb manager party ≡ eqb (cond c own (manager_in (get_or (users_of s) place nobody).party.managers area)) party
          go true k = ne_eqb manager party (λ z. omega (arith, z, h, m, eqb-true (manager_in (get_or (users_of s) place nobody).party.managers area) 0 k)) ∙ sym (ne_eqb own party (λ z. other (id_is e ∙ z)))
          go false k = ap (λ (n : ℕ). eqb n party) m

pub first_stands : (x y : Bool) → x ≡ true → true ≡ (x || y)
first_stands x y e = rw e

pub second_stands : (x y : Bool) → x ≡ false → y ≡ (x || y)
second_stands x y e = rw e
