-- A user's position in an area: four bytes of the book, and with these set the bytes hold the book with that user moved. Assumes nothing.
use Rattle.base.specs.Basics.{◌≡◌, refl, ap, ap₂, subst⁻¹, ◌∙◌, List, ℕ, zero, suc, ◌+◌, ◌*◌, ◌≤◌, ◌<◌, ◌^◌, arith, ℤ, pos, neg_ℤ, ◌+ℤ◌, length, get_or}
use Rattle.base.specs.Basics.{sets}
use Rattle.fields.proofs.Field.{field_lt, length_to_bytes}
use Rattle.fields.specs.Field.{field, set_field, to_bytes}
use Rattle.fields.specs.Layout.{size}
use Rattle.book_format.proofs.Passed.{length-users_of}
use Rattle.book_format.specs.Book.{book_of, users_of}
use Rattle.book_format.proofs.Held.{held_bytes, held_user_fits, held_user_part}
use Rattle.book_format.proofs.Places.{position_read}
use Rattle.book_format.proofs.Parts.{pack-set}
use Rattle.book_format.specs.Held.{HeldAs}
use Rattle.book_format.specs.Places.{UserIn, position_at}
use Rattle.base.proofs.Linear.{neg_part-neg, neg_part_of, neg_part-pos, parts_add, pos_part-neg, pos_part_of, pos_part-pos}
use Rattle.base.specs.Parts.{neg_part, pos_part}
use Rattle.book_records.specs.User.{FitsAmounts, FitsSigned, FitsUser, amount_values, amount_widths, user_bytes, user_values, user_widths}
use Rattle.rules.specs.Book.{PerArea, User, at, nobody}
use Rattle.rules.specs.Changes.{add, moved, with_users}
use Rattle.rules.specs.Signed.{bits_of, signed_of}
use Rattle.units.proofs.TwosComplement.{neg_part_signed_of_le, pos_part_signed_of_lt}
use Rattle.cut_apply.specs.Positions.{PositionIn, moved_at, position_of}

-- ---- one user

-- amounts that fit still do where the new one does
fits_added : (v : PerArea) (z : ℤ) (area : ℕ) → FitsAmounts v → FitsSigned 32 (at v area +ℤ z) → FitsAmounts (add v area z)
unfolding add at
fits_added v z zero f p = record { pvb = p; tvb = f.tvb; avb = f.avb }
fits_added v z (suc zero) f p = record { pvb = f.pvb; tvb = p; avb = f.avb }
fits_added v z (suc (suc area)) f p = record { pvb = f.pvb; tvb = f.tvb; avb = p }

module _ (u : User) (z : ℤ) where
  -- a user that is moved differs in them
  bytes_moved : (area : ℕ) → area < 3 → user_bytes (moved area z u) ≡ sets (user_bytes u) (20 + 4 * area) (to_bytes 4 (bits_of 32 (at u.position area +ℤ z)))
  unfolding user_bytes user_values amount_values user_widths amount_widths moved add at size set_field
  bytes_moved zero h = pack-set user_widths (user_values u) 6 (bits_of 32 (u.position.pvb +ℤ z)) (omega arith) refl
  bytes_moved (suc zero) h = pack-set user_widths (user_values u) 7 (bits_of 32 (u.position.tvb +ℤ z)) (omega arith) refl
  bytes_moved (suc (suc zero)) h = pack-set user_widths (user_values u) 8 (bits_of 32 (u.position.avb +ℤ z)) (omega arith) refl
  bytes_moved (suc (suc (suc area))) h = absurd (omega arith)

  -- a user that fits still does where the new position does
  fits_moved : (area : ℕ) → FitsUser u → FitsSigned 32 (at u.position area +ℤ z) → FitsUser (moved area z u)
  unfolding moved
  fits_moved area f p =
      record {
        id = f.id;
        role = f.role;
        physical = f.physical;
        position = fits_added u.position z area f.position p;
        charges = f.charges;
        assigned = f.assigned;
        blocked = f.blocked;
      }

-- a sum is at most its parts
pub add-le : (x z : ℤ) → (pos_part (x +ℤ z) ≤ pos_part x + pos_part z) × (neg_part (x +ℤ z) ≤ neg_part x + neg_part z)
add-le x z =
    let e = parts_add x z in
    (omega (arith, pos_part_of (x +ℤ z) (pos_part x + pos_part z) (neg_part x + neg_part z) e), omega (arith, neg_part_of (x +ℤ z) (pos_part x + pos_part z) (neg_part x + neg_part z) e))

-- ---- in the book

module _ (s : List ℕ) {place area : ℕ} (p : PositionIn s place area) where
  -- the user is one of the book's
  among_users : place < length (users_of s)
  among_users = omega (arith, length-users_of s, p.user_inside)

  -- the user stands at its place
  pub user-there : UserIn s place
  user-there = record { form = p.held.form; inside = p.user_inside }

  -- the four bytes of the position stand for it
  reads : signed_of 32 (field 4 (position_at s place area) s) ≡ position_of (users_of s) place area
  reads = position_read user-there p.area_inside

  -- with them set, the user is moved
  position_set : (z : ℤ) → FitsSigned 32 (position_of (users_of s) place area +ℤ z)
      → HeldAs (with_users (book_of s) (moved_at place area z (users_of s))) (set_field 4 (position_at s place area) (bits_of 32 (position_of (users_of s) place area +ℤ z)) s)
  unfolding book_of set_field position_at moved
  position_set z f =
      let u = get_or (users_of s) place nobody in
      let v = to_bytes 4 (bits_of 32 (at u.position area +ℤ z)) in
      held_user_part p.held place (moved area z u) nobody among_users (fits_moved u z area (held_user_fits p.held place nobody among_users).user f) refl (20 + 4 * area)
      (position_at s place area) v refl (omega (arith, length_to_bytes 4 (bits_of 32 (at u.position area +ℤ z)), p.area_inside)) (bytes_moved u z area p.area_inside)

  -- what is read stands for the position
  pub position_is : {a bits : ℕ} → a ≡ position_at s place area → bits ≡ field 4 a s → signed_of 32 bits ≡ position_of (users_of s) place area
  position_is stands read = ap (signed_of 32) (read ∙ ap (λ (i : ℕ). field 4 i s) stands) ∙ reads

  -- the bits after a move are put there
  pub position_moved : (z : ℤ) {a bits r : ℕ} {t : List ℕ} → a ≡ position_at s place area → bits ≡ field 4 a s → r ≡ bits_of 32 (signed_of 32 bits +ℤ z) → t ≡ set_field 4 a r s
      → FitsSigned 32 (position_of (users_of s) place area +ℤ z) → HeldAs (with_users (book_of s) (moved_at place area z (users_of s))) t
  position_moved z {a} {bits} {r} stands read put e fits =
      let same : set_field 4 a r s ≡ set_field 4 (position_at s place area) (bits_of 32 (position_of (users_of s) place area +ℤ z)) s =
      ap₂ (λ (i v : ℕ). set_field 4 i v s) stands (put ∙ ap (λ (x : ℤ). bits_of 32 (x +ℤ z)) (position_is stands read)) in
      subst⁻¹ (HeldAs (with_users (book_of s) (moved_at place area z (users_of s)))) (e ∙ same) (position_set z fits)

  -- a position that is raised, or lowered, within 32 bits
  pub fits_raised : (n : ℕ) → pos_part (position_of (users_of s) place area) + n < 2 ^ 31 → FitsSigned 32 (position_of (users_of s) place area +ℤ pos n)
  fits_raised n h =
      let l = add-le (position_of (users_of s) place area) (pos n) in
      let low = neg_part_signed_of_le 32 (field 4 (position_at s place area) s) in
      record { above = omega (arith, l.0, pos_part-pos n); below = omega (arith, l.1, neg_part-pos n, low, ap neg_part reads) }

  pub fits_lowered : (n : ℕ) → neg_part (position_of (users_of s) place area) + n ≤ 2 ^ 31 → FitsSigned 32 (position_of (users_of s) place area +ℤ neg_ℤ (pos n))
  fits_lowered n h =
      let l = add-le (position_of (users_of s) place area) (neg_ℤ (pos n)) in
      let u = field 4 (position_at s place area) s in
      let low = pos_part_signed_of_lt 32 u (field_lt 4 (position_at s place area) s (held_bytes p.held)) in
      record {
        above = omega (arith, l.0, pos_part-neg (pos n), neg_part-pos n, low, ap pos_part reads);
        below = omega (arith, l.1, neg_part-neg (pos n), pos_part-pos n);
      }
