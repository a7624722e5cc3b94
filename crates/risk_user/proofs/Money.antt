-- The money of the user at a place: fields of its record. Assumes nothing.
use Rattle.base.specs.Basics.{◌≡◌, refl, ap, ◌∙◌, List, ℕ, ◌+◌, arith, get_or}
use Rattle.fields.specs.Field.{field}
use Rattle.book_format.proofs.Places.{user_field}
use Rattle.book_format.specs.Book.{place_of_user, users_of}
use Rattle.book_format.specs.Places.{UserIn}
use Rattle.book_records.specs.User.{user_of}
use Rattle.rules.specs.Book.{nobody}
use Rattle.rules.specs.Signed.{signed_of}

module _ {s : List ℕ} {place : ℕ} (p : UserIn s place) {a : ℕ} (e : a ≡ place_of_user s place) where
  pub role_is : field 1 (a + 4) s ≡ (get_or (users_of s) place nobody).party.role
  unfolding user_of
  role_is = ap (λ (i : ℕ). field 1 (i + 4) s) e ∙ user_field p 1 4 (λ u. u.party.role) (λ n. n) (omega arith) (λ c. refl)

  pub charges_is : signed_of 64 (field 8 (a + 32) s) ≡ (get_or (users_of s) place nobody).party.charges
  unfolding user_of
  charges_is = ap (λ (i : ℕ). signed_of 64 (field 8 (i + 32) s)) e ∙ user_field p 8 32 (λ u. u.party.charges) (signed_of 64) (omega arith) (λ c. refl)

  pub assigned_is : field 8 (a + 40) s ≡ (get_or (users_of s) place nobody).party.assigned
  unfolding user_of
  assigned_is = ap (λ (i : ℕ). field 8 (i + 40) s) e ∙ user_field p 8 40 (λ u. u.party.assigned) (λ n. n) (omega arith) (λ c. refl)

  pub blocked_is : field 8 (a + 48) s ≡ (get_or (users_of s) place nobody).blocked
  unfolding user_of
  blocked_is = ap (λ (i : ℕ). field 8 (i + 48) s) e ∙ user_field p 8 48 (λ u. u.blocked) (λ n. n) (omega arith) (λ c. refl)
