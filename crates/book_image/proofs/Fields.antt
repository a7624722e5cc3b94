-- The book of an image's fields: its records, that they fit their bytes, and what it is written as. Assumes nothing.
use Rattle.base.specs.Basics.{◌≡◌, refl, sym, ap, ◌∙◌, true, false, ◌&&◌, List, [], ◌∷◌, ◌++◌, append-nil, ℕ, zero, suc, ◌+◌, ◌*◌, ◌<◌, ◌≤◌, ◌^◌}
use Rattle.base.specs.Basics.{le_of_suc-le-suc, mul-suc, not-suc-le-zero, arith, T, leb, leb→le, length, take, drop, length-drop, sets}
use Rattle.base.specs.Basics.{length-take-le, take-add}
use Rattle.rules.specs.Areas.{managers_in, selling_in}
use Rattle.rules.specs.Questions.{version_known}
use Rattle.base.proofs.Tests.{and_l, and_r, by_case}
use Rattle.fields.specs.Field.{to_bytes, set_field, AllBytes}
use Rattle.fields.specs.Layout.{records_of, bytes_of_records, fields_at, pack, size, Every}
use Rattle.fields.proofs.Field.{field_lt, length_to_bytes, all_bytes_take, all_bytes_drop}
use Rattle.fields.proofs.Pack.{fit_fields_at, pack_fields_at}
use Rattle.book_format.proofs.Round.{selling_back}
use Rattle.fields.proofs.Records.{length-records_of}
use Rattle.fields.proofs.Sets.{part_sets, sets_left, take_of_drop}
use Rattle.book_records.specs.User.{FitsRecord}
use Rattle.book_records.specs.Trade.{trade_of, trade_bytes, FitsTrade}
use Rattle.book_format.specs.Book.{mark, header_widths, header_values, header_bytes, size_of_header, length_by, selling_tariff_at, version_of, count_of_users, count_of_trades, prices_of, user_record, size_of_user, book_of, bytes_of}
use Rattle.book_format.specs.Questions.{Formed}
use Rattle.book_format.proofs.Fits.{managers_at_fit, user_of_fits}
use Rattle.book_format.proofs.Offsets.{header_plain, header_range, header_selling, selling_none, user_range}
use Rattle.book_format.proofs.Written.{FitsBook, FitsSelling, formed_bytes_of, length_bytes_of, parts_written}
use Rattle.book_parties.specs.Ids.{trades_from}
use Rattle.book_value.specs.Written.{counts_in_range}
use Rattle.book_image.specs.Image.{image_users_at, image_user_size, image_trades_at, image_size}
use Rattle.book_image.specs.ImageBook.{image_book, image_user_of, CountsOf}

-- ---- what is read from bytes fits them

trade_fits : (c : List ℕ) → length c ≡ 20 → AllBytes c → FitsTrade (trade_of c)
unfolding trade_of
trade_fits c l bytes =
    record {
      seller = field_lt 4 0 c bytes;
      buyer = field_lt 4 4 c bytes;
      area = field_lt 1 8 c bytes;
      kind = field_lt 1 9 c bytes;
      day = field_lt 1 10 c bytes;
      notified = field_lt 4 12 c bytes;
      standing = field_lt 4 16 c bytes;
    }

-- the user of a record in an image
user_fits : (version : ℕ) (c : List ℕ) → length c ≡ image_user_size → AllBytes c → FitsRecord (managers_in version) (image_user_of version c)
unfolding image_user_of size_of_user
user_fits version c l bytes =
    let k = size_of_user version in
    let b = all_bytes_take k c bytes in
    record {
      user = user_of_fits (take k c) b;
      managers = managers_at_fit (managers_in version) (take k c) (length-take-le k c (omega (arith, l, user_range version))) b;
    }

module _ {R : Type 0} (len : ℕ) (one : List ℕ → R) where
  every_record : (P : R → Type 0) → ((c : List ℕ) → length c ≡ len → AllBytes c → P (one c)) → (n : ℕ) (s : List ℕ) → len * n ≤ length s → AllBytes s → Every P (records_of len one n s)
  unfolding records_of
  every_record P f zero s h bytes = tt
  every_record P f (suc n) s h bytes =
      let e = mul-suc len n in (
        f (take len s) (length-take-le len s (omega (arith, e))) (all_bytes_take len s bytes),
        every_record P f n (drop len s) (rw length-drop (omega (arith, e))) (all_bytes_drop len s bytes),
      )

  -- the first n of m records are n records
  pub take_records : (n m : ℕ) (s : List ℕ) → n ≤ m → take n (records_of len one m s) ≡ records_of len one n s
  unfolding records_of
  take_records zero m s h = refl
  take_records (suc n) zero s h = absurd (not-suc-le-zero h)
  take_records (suc n) (suc m) s h = ap (λ r. one (take len s) ∷ r) (take_records n m (drop len s) (le_of_suc-le-suc h))

-- ---- the book of an image

-- the tests of the counts, as facts
pub counts_of : {s : List ℕ} {n m : ℕ} → length s ≡ image_size → n ≡ count_of_users s → m ≡ count_of_trades s → counts_in_range n m ≡ true → CountsOf s n m
unfolding counts_in_range
counts_of {n = n} {m = m} whole users trades k =
    let t : T ((leb 1 n && leb n 64) && leb m 256) = rw k tt in
    record {
      whole = whole;
      users = users;
      trades = trades;
      some = leb→le 1 n (search (and_l, and_r));
      few = leb→le n 64 (search (and_l, and_r));
      many = leb→le m 256 (search (and_l, and_r));
    }

-- selling tariffs that are read fit
selling_lt : (at : ℕ) (s : List ℕ) → AllBytes s → selling_tariff_at at s < 2 ^ 32
unfolding selling_tariff_at
selling_lt at s bytes = by_case (selling_in (version_of s)) (λ e. rw e (field_lt 4 at s bytes)) (λ e. rw e (omega arith))

-- and are 0 in a version that has none
selling_zero : (at : ℕ) (s : List ℕ) → selling_in (version_of s) ≡ false → selling_tariff_at at s ≡ 0
unfolding selling_tariff_at
selling_zero at s e = rw e

selling_fits : (s : List ℕ) → AllBytes s → FitsSelling (version_of s) (prices_of s)
unfolding prices_of
selling_fits s bytes =
    record { s = selling_lt 32 s bytes; u = selling_lt 36 s bytes; none = λ e. (selling_zero 32 s e, selling_zero 36 s e) }

module _ {s : List ℕ} {n m : ℕ} (counts : CountsOf s n m) where
  -- a header of any version lies in an image
  header_lies : size_of_header (version_of s) ≤ length s
  header_lies = omega (arith, counts.whole, header_range (version_of s))

  users_are : (image_book s).users ≡ records_of image_user_size (image_user_of (version_of s)) n (drop image_users_at s)
  unfolding image_book
  users_are = rw (← counts.users) (take_records image_user_size (image_user_of (version_of s)) n 64 (drop image_users_at s) counts.few)

  trades_are : (image_book s).trades ≡ trades_from image_trades_at m s
  unfolding image_book
  trades_are = rw (← counts.trades) (take_records 20 trade_of m 256 (drop image_trades_at s) counts.many)

  pub user_count_lem : length (image_book s).users ≡ n
  user_count_lem = ap length users_are ∙ length-records_of image_user_size (image_user_of (version_of s)) n (drop image_users_at s)

  pub trade_count_lem : length (image_book s).trades ≡ m
  trade_count_lem = ap length trades_are ∙ length-records_of 20 trade_of m (drop image_trades_at s)

  -- the fields of the header behind the mark that every version has
  values_are : header_values (image_book s) ≡ mark ∷ fields_at (2 ∷ 1 ∷ 2 ∷ 4 ∷ 4 ∷ 4 ∷ 4 ∷ 4 ∷ 4 ∷ []) 3 s
  unfolding header_values fields_at count_of_users count_of_trades image_book book_of version_of prices_of
  values_are = rw (user_count_lem ∙ counts.users, trade_count_lem ∙ counts.trades)

  module _ (bytes : AllBytes s) where
    -- their bytes in the image, with the mark, are those of its book
    start_copied : set_field 3 0 mark (take 32 s) ≡ pack header_widths (header_values (image_book s))
    unfolding set_field header_widths pack size
    start_copied =
        let ws : List ℕ = 2 ∷ 1 ∷ 2 ∷ 4 ∷ 4 ∷ 4 ∷ 4 ∷ 4 ∷ 4 ∷ [] in
        let n = length-take-le 32 s (omega (arith, counts.whole)) in
        sym (part_sets (take 32 s) (to_bytes 3 mark) 0 3 (length_to_bytes 3 mark) (omega (arith, n)))
        ∙ ap (λ (l : List ℕ). to_bytes 3 mark ++ l) (sym (pack_fields_at ws 3 s (omega (arith, counts.whole)) bytes ∙ take_of_drop 3 29 s))
        ∙ sym (ap (pack header_widths) values_are)

    -- a longer header has the mark in the same place
    mark_first : set_field 3 0 mark (take 40 s) ≡ set_field 3 0 mark (take 32 s) ++ take 8 (drop 32 s)
    unfolding set_field
    mark_first =
        ap (λ (l : List ℕ). sets l 0 (to_bytes 3 mark)) (take-add 32 8 s)
        ∙ sets_left (to_bytes 3 mark) (take 32 s) (take 8 (drop 32 s)) 0 (omega (arith, length_to_bytes 3 mark, length-take-le 32 s (omega (arith, counts.whole))))

    -- the image's header, of its version's size and with the mark, is that of its book
    header_copied : set_field 3 0 mark (take (size_of_header (version_of s)) s) ≡ header_bytes (image_book s)
    unfolding header_bytes image_book book_of
    header_copied =
        let v = version_of s in
        by_case (selling_in v)
        (λ e. rw (header_selling v e, selling_back s bytes (header_lies) e, ← start_copied) mark_first)
        (λ e. rw (header_plain v e, selling_none v (prices_of s) e, append-nil) start_copied)

    -- header, users and trades of the image copied one after the other, over bytes of the book's length
    pub image_written : (out : List ℕ) {version at size : ℕ} → version ≡ version_of s → at ≡ size_of_header version → size ≡ size_of_user version → length out ≡ length_by (version_of s) n m
        → sets (sets (sets out 0 (set_field 3 0 mark (take at s))) at (bytes_of_records (user_record version) (records_of image_user_size (image_user_of version) n (drop image_users_at s)))) (at + size * n) (bytes_of_records trade_bytes (trades_from image_trades_at m s)) ≡ bytes_of (image_book s)
    unfolding image_book book_of
    image_written out {version} {at} {size} v begin sized h =
        let b = image_book s in
        let same : sets (sets (sets out 0 (set_field 3 0 mark (take at s))) at (bytes_of_records (user_record version) (records_of image_user_size (image_user_of version) n (drop image_users_at s)))) (at + size * n)
        (bytes_of_records trade_bytes (trades_from image_trades_at m s)) ≡ sets
        (sets (sets out 0 (header_bytes b)) at (bytes_of_records (user_record (version_of s)) b.users)) (at + size_of_user (version_of s) * length b.users)
        (bytes_of_records trade_bytes b.trades) = rw (begin, sized, v, header_copied, user_count_lem, users_are, trades_are) in
        same ∙ parts_written b out (begin ∙ ap size_of_header v) (rw (user_count_lem, trade_count_lem) h)

    -- so many bytes
    pub image_sized : length (bytes_of (image_book s)) ≡ length_by (version_of s) n m
    unfolding image_book book_of
    image_sized = length_bytes_of (image_book s) ∙ rw (user_count_lem, trade_count_lem)

    -- of the right form
    pub image_formed : T (version_known (version_of s)) → Formed (bytes_of (image_book s))
    unfolding image_book book_of
    image_formed known =
        formed_bytes_of (image_book s) known (omega (arith, user_count_lem, counts.some)) (omega (arith, user_count_lem, counts.few)) (omega (arith, trade_count_lem, counts.many))

    pub book_fits : FitsBook (image_book s)
    unfolding header_widths mark image_book book_of
    book_fits =
        record {
          header = rw values_are (omega arith, fit_fields_at (2 ∷ 1 ∷ 2 ∷ 4 ∷ 4 ∷ 4 ∷ 4 ∷ 4 ∷ 4 ∷ []) 3 s bytes);
          selling = selling_fits s bytes;
          users = rw users_are (every_record image_user_size (image_user_of (version_of s)) (FitsRecord (managers_in (version_of s))) (user_fits (version_of s)) n (drop image_users_at s) (rw length-drop (omega (arith, counts.whole, counts.few))) (all_bytes_drop image_users_at s bytes));
          trades = rw trades_are (every_record 20 trade_of FitsTrade trade_fits m (drop image_trades_at s) (rw length-drop (omega (arith, counts.whole, counts.many))) (all_bytes_drop image_trades_at s bytes));
        }
