-- The image of a book's bytes has that book's fields: what `read` writes to an image, `write` reads from it, and the other way round. Assumes nothing.
use Rattle.base.specs.Basics.{◌≡◌, refl, sym, ap, ap₂, ◌∙◌, List, ◌∷◌, ◌++◌, append_assoc, ℕ, zero, suc, ◌+◌, ◌-◌, ◌*◌, ◌≤◌, mul-suc, zero-add, arith}
use Rattle.base.specs.Basics.{T, length, take, drop, replicate, length-append, length-drop, length-take-le, take_at, drop_at}
use Rattle.fields.specs.Field.{field, AllBytes}
use Rattle.fields.specs.Layout.{bytes_of_records, records_of}
use Rattle.fields.proofs.Field.{field_part}
use Rattle.book_records.specs.User.{user_of}
use Rattle.book_records.specs.Trade.{trade_of}
use Rattle.rules.specs.Areas.{selling_in}
use Rattle.rules.specs.Book.{User}
use Rattle.rules.specs.Questions.{version_known}
use Rattle.base.proofs.Tests.{by_case}
use Rattle.book_format.specs.Book.{count_of_users, count_of_trades, version_of, trades_at, users_of, trades_of, selling_tariff_at, prices_of, book_of, bytes_of, size_of_header, size_of_user}
use Rattle.book_format.specs.Questions.{Formed}
use Rattle.book_format.proofs.Offsets.{header_range, header_selling, user_range, users_end, users_there, trades_there}
use Rattle.book_format.proofs.Places.{header_lies}
use Rattle.book_format.proofs.Written.{book_of_fits}
use Rattle.book_image.specs.Fitted.{fitted, refitted}
use Rattle.book_image.proofs.Fitted.{fitted_more, length-fitted, length-refitted}
use Rattle.book_image.proofs.Turns.{records_front}
use Rattle.book_image.specs.Image.{image_users_at, image_user_size, image_trades_at, image_size, padded, image_header, image_users, image_trades, image_of}
use Rattle.book_image.proofs.Copied.{length-header, length-users, length-trades}
use Rattle.book_image.specs.ImageBook.{image_book, image_user_of, CountsOf}
use Rattle.book_image.proofs.Fields.{take_records, image_formed, book_fits}

module _ {R : Type 0} (len : ℕ) (one : List ℕ → R) where
  -- records that fill the front of a list do not depend on what they are padded with
  records_padded : (n room : ℕ) (p q : List ℕ) → length p ≡ len * n → records_of len one n (padded room p ++ q) ≡ records_of len one n p
  unfolding padded
  records_padded n room p q h = rw append_assoc (records_front len one n p _ h)

-- a user's record in an image is that of its version
user_back : (version : ℕ) (c : List ℕ) → length c ≡ size_of_user version → image_user_of version (fitted image_user_size c) ≡ user_of c
unfolding image_user_of
user_back version c l =
    let k = size_of_user version in
    let h = user_range version in
    ap (λ (x : List ℕ). user_of (take k x)) (fitted_more image_user_size (image_user_size - k) c (omega (arith, l, h)))
    ∙ ap user_of (take_at c (replicate (image_user_size - k) 0) k l)

users_refitted : (version n : ℕ) (s : List ℕ) → size_of_user version * n ≤ length s
    → records_of image_user_size (image_user_of version) n (refitted image_user_size (size_of_user version) n s) ≡ records_of (size_of_user version) user_of n s
unfolding refitted records_of bytes_of_records
users_refitted version zero s h = refl
users_refitted version (suc n) s h =
    let k = size_of_user version in
    let e = mul-suc k n in
    let c = take k s in
    let rest = refitted image_user_size k n (drop k s) in
    let l = length-fitted image_user_size c in
    rw (take_at (fitted image_user_size c) rest image_user_size l, drop_at (fitted image_user_size c) rest image_user_size l)
    (ap₂ (λ (x : User) (y : List User). x ∷ y) (user_back version c (length-take-le k s (omega (arith, e)))) (users_refitted version n (drop k s) (rw length-drop (omega (arith, e)))))

module _ (s : List ℕ) (f : Formed s) where
  -- the header of the book's version
  header_front : take (size_of_header (version_of s)) (image_of s) ≡ take (size_of_header (version_of s)) s
  unfolding image_of padded
  header_front =
      let H = size_of_header (version_of s) in
      ap (take H) (append_assoc (take H s) _ _) ∙ take_at (take H s) _ H (length-take-le H s (header_lies f).whole)

  -- its fields
  same_field : (w at : ℕ) → at + w ≤ size_of_header (version_of s) → field w at (image_of s) ≡ field w at s
  same_field w at h =
      let H = size_of_header (version_of s) in
      rw (zero-add at) at (sym (field_part w at 0 H (image_of s) h) ∙ ap (field w at) header_front ∙ field_part w at 0 H s h)

  -- those that every version has
  start_field : (w at : ℕ) → at + w ≤ 32 → field w at (image_of s) ≡ field w at s
  start_field w at h = same_field w at (omega (arith, h, header_range (version_of s)))

  same_version : version_of (image_of s) ≡ version_of s
  unfolding version_of
  same_version = start_field 2 3 (omega arith)

  -- the selling tariffs, 0 in a version that has none
  same_selling : (at : ℕ) → at + 4 ≤ 40 → selling_tariff_at at (image_of s) ≡ selling_tariff_at at s
  unfolding selling_tariff_at
  same_selling at h =
      by_case (selling_in (version_of s)) (λ e. rw (same_version, e) (same_field 4 at (omega (arith, h, header_selling (version_of s) e)))) (λ e. rw (same_version, e))

  -- the users, each read from as many bytes as its version has
  users_back : take (count_of_users s) (records_of image_user_size (image_user_of (version_of s)) 64 (drop image_users_at (image_of s))) ≡ users_of s
  unfolding image_of
  users_back =
      let n = count_of_users s in
      let v = version_of s in
      let one = image_user_of v in
      let d = drop (size_of_header v) s in
      let all = refitted image_user_size (size_of_user v) n d in
      take_records image_user_size one n 64 (drop image_users_at (image_of s)) f.users
      ∙ ap (records_of image_user_size one n) (drop_at (image_header s) (image_users s ++ image_trades s) image_users_at (length-header s))
      ∙ records_padded image_user_size one n (image_trades_at - image_users_at) all (image_trades s) (length-refitted image_user_size (size_of_user v) n d)
      ∙ users_refitted v n d (rw length-drop (omega (arith, f.whole, users_end s {at = size_of_header v} refl refl refl)))
      ∙ users_there s refl refl refl

  trades_back : take (count_of_trades s) (records_of 20 trade_of 256 (drop image_trades_at (image_of s))) ≡ trades_of s
  unfolding image_of padded
  trades_back =
      let m = count_of_trades s in
      let front = image_header s ++ image_users s in
      let all = drop (trades_at s) s in
      let k : length all ≡ 20 * m = rw length-drop (omega (arith, f.whole)) in
      let l : length front ≡ image_trades_at = length-append (image_header s) (image_users s) ∙ omega (arith, length-header s, length-users s f) in
      take_records 20 trade_of m 256 (drop image_trades_at (image_of s)) f.trades
      ∙ ap (records_of 20 trade_of m) (ap (drop image_trades_at) (sym (append_assoc (image_header s) (image_users s) (image_trades s))) ∙ drop_at front (image_trades s) image_trades_at l)
      ∙ records_front 20 trade_of m all _ k
      ∙ trades_there s refl refl

  -- an image has one length, whatever version and counts
  pub image_length : length (image_of s) ≡ image_size
  unfolding image_of
  image_length =
      length-append (image_header s) (image_users s ++ image_trades s)
      ∙ omega (arith, length-header s, length-users s f, length-trades s f, length-append (image_users s) (image_trades s))

  -- the counts of the image are the book's
  pub same_counts : (count_of_users (image_of s) ≡ count_of_users s) × (count_of_trades (image_of s) ≡ count_of_trades s)
  unfolding count_of_users count_of_trades
  same_counts = (start_field 1 5 (omega arith), start_field 2 6 (omega arith))

  same_prices : prices_of (image_of s) ≡ prices_of s
  unfolding prices_of
  same_prices =
      rw
      (start_field 4 12 (omega arith), start_field 4 16 (omega arith), start_field 4 20 (omega arith), start_field 4 24 (omega arith), start_field 4 28 (omega arith), same_selling 32 (omega arith), same_selling 36 (omega arith))

  -- the book of the image of a book's bytes
  pub image_book_lem : image_book (image_of s) ≡ book_of s
  unfolding image_book book_of
  image_book_lem = rw (same_counts.0, same_counts.1, same_version, users_back, trades_back, start_field 4 8 (omega arith), same_prices)

-- what is written from an image of a known version, and read into an image again, has the fields of the first
pub image_back : {s : List ℕ} {n m : ℕ} → CountsOf s n m → AllBytes s → T (version_known (version_of s)) → image_book (image_of (bytes_of (image_book s))) ≡ image_book s
unfolding image_book book_of
image_back {s} counts bytes known =
    let b = image_book s in
    image_book_lem (bytes_of b) (image_formed counts bytes known) ∙ book_of_fits b (book_fits counts bytes)
