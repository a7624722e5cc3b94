-- Question 1 asks for 32 bytes in every version: a book of version 2 or 3 that ends before its header does is judged by 3. Assumes nothing.
use Rattle.base.specs.Basics.{◌≡◌, refl, List, ◌∷◌, ℕ, replicate}
use Rattle.fields.specs.Field.{field, from_bytes}
use Rattle.rules.specs.{Areas.managers_in, Areas.selling_in, Questions.refusal, Questions.version_known}
use Rattle.rules.specs.Questions.{after}
use Rattle.book_records.specs.User.{record_size}
use Rattle.book_format.specs.Book.{size_of_header, length_by, length_of, mark, mark_of, count_of_trades, count_of_users, size_of_user, version_of}
use Rattle.book_format.specs.Questions.{about_form, form_number_of, marked, sized, versioned}

-- the mark, a version, one user and no trade, and so many bytes of 0
unfoldable pub beginning : ℕ → ℕ → List ℕ
beginning version n = 0x47 ∷ 0x44 ∷ 0x42 ∷ version ∷ 0 ∷ 1 ∷ 0 ∷ 0 ∷ replicate n 0

pub record Beginnings : Type 0 where
  -- 31, 32, 39 and 40 bytes of version 2
  pub bytes_31 : form_number_of (beginning 2 23) ≡ 1
  pub bytes_32 : form_number_of (beginning 2 24) ≡ 3
  pub bytes_39 : form_number_of (beginning 2 31) ≡ 3
  pub bytes_40 : form_number_of (beginning 2 32) ≡ 3
  -- one user behind its header, in each version and in another's length
  pub whole_1 : form_number_of (beginning 1 80) ≡ 0
  pub whole_2 : form_number_of (beginning 2 88) ≡ 0
  pub whole_3 : form_number_of (beginning 3 100) ≡ 0
  pub exchanged_1 : form_number_of (beginning 1 88) ≡ 3
  pub exchanged_2 : form_number_of (beginning 2 80) ≡ 3
  pub exchanged_3 : form_number_of (beginning 3 88) ≡ 3
  pub exchanged_23 : form_number_of (beginning 2 100) ≡ 3
  -- another version
  pub version_0 : form_number_of (beginning 0 80) ≡ 2
  pub version_4 : form_number_of (beginning 4 100) ≡ 2

pub beginnings : Beginnings
unfolding beginning form_number_of about_form refusal after marked mark mark_of versioned version_known version_of sized count_of_users count_of_trades length_of length_by size_of_header selling_in managers_in size_of_user record_size field from_bytes
beginnings =
    record {
      bytes_31 = refl;
      bytes_32 = refl;
      bytes_39 = refl;
      bytes_40 = refl;
      whole_1 = refl;
      whole_2 = refl;
      whole_3 = refl;
      exchanged_1 = refl;
      exchanged_2 = refl;
      exchanged_3 = refl;
      exchanged_23 = refl;
      version_0 = refl;
      version_4 = refl;
    }
