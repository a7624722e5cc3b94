-- A record that is read and written again is its bytes with the zero bytes as 0. Assumes nothing.
use Rattle.base.specs.Basics.{◌≡◌, refl, sym, ap, ap₂, ◌∙◌, Bool, true, false, List, [], ◌∷◌, ◌++◌, append_assoc, append-nil, ℕ, ◌+◌, ◌≤◌, arith}
use Rattle.base.specs.Basics.{length, take, drop, length-drop, take-append-drop, sets, drop-drop, length-take-le, take_all}
use Rattle.fields.specs.Field.{field, to_bytes, set_field, AllBytes}
use Rattle.fields.specs.Layout.{fields_at, pack, size}
use Rattle.fields.proofs.Field.{all_bytes_take, field_lt, length_to_bytes}
use Rattle.fields.proofs.Pack.{length_fields_at, pack_fields_at}
use Rattle.fields.proofs.Sets.{part_sets, sets_left}
use Rattle.units.proofs.TwosComplement.{bits_of_signed_of}
use Rattle.book_records.specs.User.{alone, amount_widths, record_bytes, record_size, user_bytes, user_of, user_values, user_widths}
use Rattle.book_records.specs.Trade.{trade_of, trade_widths, trade_values, trade_bytes}
use Rattle.book_records.proofs.Amounts.{amount_values-amounts_at}
use Rattle.book_records.proofs.Users.{manager_bytes_of, user_of_front}
use Rattle.rules.specs.Areas.{managers_in}
use Rattle.book_format.specs.Book.{user_record, size_of_user}
use Rattle.book_format.proofs.Offsets.{user_range}
use Rattle.book_image.specs.Fitted.{fitted}
use Rattle.book_image.specs.ImageBook.{image_user_of}
use Rattle.book_image.proofs.Fitted.{fitted_less}

-- fields of two lists of widths stand one behind the other
pack-append : (ws us vs xs : List ℕ) → length vs ≡ length ws → pack (ws ++ us) (vs ++ xs) ≡ pack ws vs ++ pack us xs
unfolding pack
pack-append [] us [] xs e = refl
pack-append [] us (v ∷ vs) xs e = absurd (omega arith)
pack-append (w ∷ ws) us [] xs e = absurd (omega arith)
pack-append (w ∷ ws) us (v ∷ vs) xs e = rw (append_assoc, pack-append ws us vs xs (omega arith))

-- a record with z zero bytes between the fields of widths `front` and `back`
zeroed : (front back : List ℕ) (z : ℕ) (c : List ℕ) → length c ≡ size front + (z + size back) → AllBytes c
    → pack (front ++ (z ∷ back)) (fields_at front 0 c ++ (0 ∷ fields_at back (size front + z) c)) ≡ set_field z (size front) 0 c
unfolding pack set_field
zeroed front back z c l b =
    let n = size front in
    let rest : take (size back) (drop (n + z) c) ≡ drop z (drop n c) = take_all (size back) (drop (n + z) c) (rw length-drop (omega arith)) ∙ sym (drop-drop z n c) in
    pack-append front (z ∷ back) (fields_at front 0 c) (0 ∷ fields_at back (n + z) c) (length_fields_at front 0 c)
    ∙ rw (pack_fields_at front 0 c (omega arith) b, pack_fields_at back (n + z) c (omega arith) b, rest) (part_sets c (to_bytes z 0) n z (length_to_bytes z 0) (omega arith))

module _ (c : List ℕ) (b : AllBytes c) where
  user_zeroed : length c ≡ 56 → set_field 3 5 0 c ≡ user_bytes (user_of c)
  unfolding user_bytes user_widths user_values user_of amount_widths size fields_at
  user_zeroed l =
      sym
      (rw (amount_values-amounts_at 8 c b, amount_values-amounts_at 20 c b, bits_of_signed_of 64 (field 8 32 c) (field_lt 8 32 c b))
      (zeroed (4 ∷ 1 ∷ []) (amount_widths ++ (amount_widths ++ (8 ∷ 8 ∷ 8 ∷ []))) 3 c l b))

  pub trade_zeroed : length c ≡ 20 → set_field 1 11 0 c ≡ trade_bytes (trade_of c)
  unfolding trade_bytes trade_widths trade_values trade_of size fields_at
  trade_zeroed l = sym (zeroed (4 ∷ 4 ∷ 1 ∷ 1 ∷ 1 ∷ []) (4 ∷ 4 ∷ []) 1 c l b)

-- the first 56 bytes of a record are written from its user
front_zeroed : (c : List ℕ) → AllBytes c → 56 ≤ length c → set_field 3 5 0 (take 56 c) ≡ user_bytes (user_of c)
unfolding alone user_bytes user_values
front_zeroed c b l =
    user_zeroed (take 56 c) (all_bytes_take 56 c b) (length-take-le 56 c l) ∙ ap user_bytes (user_of_front c)

-- a whole record
record_zeroed : (managed : Bool) (c : List ℕ) → length c ≡ record_size managed → AllBytes c → set_field 3 5 0 c ≡ record_bytes managed (user_of c)
unfolding record_bytes record_size user_of set_field
record_zeroed true c l b =
    let n = length-take-le 56 c (omega (arith, l)) in
    ap (λ (x : List ℕ). sets x 5 (to_bytes 3 0)) (sym (take-append-drop 56 c))
    ∙ sets_left (to_bytes 3 0) (take 56 c) (drop 56 c) 5 (omega (arith, n, length_to_bytes 3 0))
    ∙ ap₂ (λ (x y : List ℕ). x ++ y) (front_zeroed c b (omega (arith, l))) (sym (manager_bytes_of c l b))
record_zeroed false c l b = user_zeroed c b l ∙ sym (append-nil (user_bytes (user_of c)))

-- a user's record in an image, as the record of a version
pub image_zeroed : (version : ℕ) {k : ℕ} → k ≡ size_of_user version → (c : List ℕ) → AllBytes c → length c ≡ 68 → set_field 3 5 0 (fitted k c) ≡ user_record version (image_user_of version c)
unfolding user_record size_of_user image_user_of
image_zeroed version e c b l =
    let k = size_of_user version in
    let h : k ≤ length c = omega (arith, l, user_range version) in
    ap (λ (i : ℕ). set_field 3 5 0 (fitted i c)) e
    ∙ ap (λ (x : List ℕ). set_field 3 5 0 x) (fitted_less k c h)
    ∙ record_zeroed (managers_in version) (take k c) (length-take-le k c h) (all_bytes_take k c b)
