-- A user's physical entry and position in an area are four bytes each of its record: the posting sets these. Assumes nothing.
use Rattle.base.specs.Basics.{◌≡◌, ◌∙◌, ap, refl, sym, List, ◌++◌, ℕ, zero, suc, ◌+◌, ◌*◌, ◌<◌, ◌≤◌, arith, ℤ, ◌+ℤ◌, length, get_or, take, drop, set}
use Rattle.base.specs.Basics.{length-sets, sets}
use Rattle.fields.proofs.Field.{length_to_bytes}
use Rattle.fields.proofs.Sets.{length_part, part_sets, sets_left, sets_part, sets_right}
use Rattle.fields.specs.Field.{AllBytes, field, set_field, to_bytes}
use Rattle.fields.specs.Layout.{size}
use Rattle.book_format.proofs.Passed.{Passed}
use Rattle.book_format.specs.Book.{place_of_user, users_of}
use Rattle.book_format.specs.Places.{UserIn}
use Rattle.book_format.proofs.Parts.{pack-set}
use Rattle.book_format.proofs.Places.{user_field, user_lies, user_part_lem}
use Rattle.book_records.specs.User.{amounts_at, amount_values, amount_widths, user_bytes, user_of, user_values, user_widths}
use Rattle.rules.specs.Book.{User, at, nobody}
use Rattle.rules.specs.Changes.{add, posted}
use Rattle.rules.specs.Signed.{bits_of, signed_of}

-- a part of what is stored, stored apart
sets_within : {A : Type 0} (l c vs : List A) (i j : ℕ) → i + length c ≤ length l → j + length vs ≤ length c → sets l i (sets c j vs) ≡ sets (sets l i c) (i + j) vs
sets_within l c vs i j h k =
    let p = take i l in
    let q = drop (length c) (drop i l) in
    sym (part_sets l (sets c j vs) i (length c) (length-sets c j vs) h)
    ∙ ap (λ (x : List _). p ++ x) (sym (sets_left vs c q j k))
    ∙ sym (sets_right vs p (c ++ q) j)
    ∙ ap (λ (n : ℕ). sets (p ++ (c ++ q)) (n + j) vs) (length_part l 0 i (omega arith))
    ∙ ap (λ (x : List _). sets x (i + j) vs) (part_sets l c i (length c) refl h)

-- an amount of an area
amount_bytes : (i : ℕ) (c : List ℕ) (area : ℕ) → area < 3 → at (amounts_at i c) area ≡ signed_of 32 (field 4 (i + 4 * area) c)
unfolding amounts_at at
amount_bytes i c zero h = ap (λ (n : ℕ). signed_of 32 (field 4 n c)) (let e : i ≡ i + 0 = omega arith in e)
amount_bytes i c (suc zero) h = refl
amount_bytes i c (suc (suc zero)) h = refl
amount_bytes i c (suc (suc (suc area))) h = absurd (omega arith)

-- the fields of a user that a posting changes
bytes_posted : (u : User) (z : ℤ) (area : ℕ) → area < 3
    → user_bytes (posted area z u) ≡ set_field 4 (20 + 4 * area) (bits_of 32 (at u.position area +ℤ z)) (set_field 4 (8 + 4 * area) (bits_of 32 (at u.physical area +ℤ z)) (user_bytes u))
unfolding user_bytes user_values amount_values user_widths amount_widths posted add at size
bytes_posted u z zero h =
    pack-set user_widths (set (user_values u) 3 (bits_of 32 (u.physical.pvb +ℤ z))) 6 (bits_of 32 (u.position.pvb +ℤ z)) (omega arith) refl
    ∙ ap (set_field 4 20 (bits_of 32 (u.position.pvb +ℤ z))) (pack-set user_widths (user_values u) 3 (bits_of 32 (u.physical.pvb +ℤ z)) (omega arith) refl)
bytes_posted u z (suc zero) h =
    pack-set user_widths (set (user_values u) 4 (bits_of 32 (u.physical.tvb +ℤ z))) 7 (bits_of 32 (u.position.tvb +ℤ z)) (omega arith) refl
    ∙ ap (set_field 4 24 (bits_of 32 (u.position.tvb +ℤ z))) (pack-set user_widths (user_values u) 4 (bits_of 32 (u.physical.tvb +ℤ z)) (omega arith) refl)
bytes_posted u z (suc (suc zero)) h =
    pack-set user_widths (set (user_values u) 5 (bits_of 32 (u.physical.avb +ℤ z))) 8 (bits_of 32 (u.position.avb +ℤ z)) (omega arith) refl
    ∙ ap (set_field 4 28 (bits_of 32 (u.position.avb +ℤ z))) (pack-set user_widths (user_values u) 5 (bits_of 32 (u.physical.avb +ℤ z)) (omega arith) refl)
bytes_posted u z (suc (suc (suc area))) h = absurd (omega arith)

module _ {s : List ℕ} {place : ℕ} (area : ℕ) (there : UserIn s place) (k : area < 3) where
  -- the user at the place, and its bytes
  abbrev user : User
  user = get_or (users_of s) place nobody

  abbrev part : List ℕ
  part = take 56 (drop (place_of_user s place) s)

  pub entry_bytes_lem : signed_of 32 (field 4 (place_of_user s place + (8 + 4 * area)) s) ≡ at (get_or (users_of s) place nobody).physical area
  unfolding user_of
  entry_bytes_lem = user_field there 4 (8 + 4 * area) (λ u. at u.physical area) (signed_of 32) (omega arith) (λ c. sym (amount_bytes 8 c area k))

  pub position_bytes : signed_of 32 (field 4 (place_of_user s place + (8 + 4 * area) + 12) s) ≡ at (get_or (users_of s) place nobody).position area
  unfolding user_of
  position_bytes =
      ap (λ (n : ℕ). signed_of 32 (field 4 n s)) (let e : place_of_user s place + (8 + 4 * area) + 12 ≡ place_of_user s place + (20 + 4 * area) = omega arith in e)
      ∙ user_field there 4 (20 + 4 * area) (λ u. at u.position area) (signed_of 32) (omega arith) (λ c. sym (amount_bytes 20 c area k))

  module _ (b : AllBytes s) (p : Passed s) where
    -- both fields set are the record of the posted user
    pub posted_bytes : (z : ℤ)
        → set_field 4 (place_of_user s place + (8 + 4 * area) + 12) (bits_of 32 (at (get_or (users_of s) place nobody).position area +ℤ z))
        (set_field 4 (place_of_user s place + (8 + 4 * area)) (bits_of 32 (at (get_or (users_of s) place nobody).physical area +ℤ z)) s)
        ≡ sets s (place_of_user s place) (user_bytes (posted area z (get_or (users_of s) place nobody)))
    unfolding set_field
    posted_bytes z =
        let a = place_of_user s place in
        let x = to_bytes 4 (bits_of 32 (at user.physical area +ℤ z)) in
        let y = to_bytes 4 (bits_of 32 (at user.position area +ℤ z)) in
        let n : length part ≡ 56 = length_part s a 56 (user_lies there) in
        let one = sets part (8 + 4 * area) x in
        let m : length one ≡ 56 = length-sets part (8 + 4 * area) x ∙ n in
        sym (ap (sets s a) (bytes_posted user z area k ∙ ap (λ (c : List ℕ). sets (sets c (8 + 4 * area) x) (20 + 4 * area) y) (user_part_lem there b p))
        ∙ sets_within s one y a (20 + 4 * area) (omega (arith, user_lies there)) (omega (arith, length_to_bytes 4 (bits_of 32 (at user.position area +ℤ z))))
        ∙ ap (λ (l : List ℕ). sets l (a + (20 + 4 * area)) y)
        (sets_within s part x a (8 + 4 * area) (omega (arith, user_lies there)) (omega (arith, length_to_bytes 4 (bits_of 32 (at user.physical area +ℤ z)))) ∙ ap (λ (l : List ℕ). sets l (a + (8 + 4 * area)) x) (sets_part s a 56 (user_lies there)))
        ∙ ap (λ (i : ℕ). sets (sets s (a + (8 + 4 * area)) x) i y) (let e : a + (20 + 4 * area) ≡ place_of_user s place + (8 + 4 * area) + 12 = omega arith in e)
        ∙ ap (λ (i : ℕ). sets (sets s i x) (place_of_user s place + (8 + 4 * area) + 12) y) (let e : a + (8 + 4 * area) ≡ place_of_user s place + (8 + 4 * area) = omega arith in e))
