-- Writing and reading back gives the same fields: what was written passes every question, and holds the book that the fields are. Assumes nothing.
use Rattle.base.specs.Basics.{◌≡◌, ap, refl, sym, ◌∙◌, Bool, ◌&&◌, cond, true, false, List, [], ℕ, ◌≤◌, arith, T, eqb, eqb→eq, eqb_refl}
use Rattle.base.specs.Basics.{leb, leb→le, le→leb, length, drop, replicate, length-take}
use Rattle.base.proofs.Tests.{and_i, and_l, and_r, eqb_of, holds}
use Rattle.rules.specs.Book as model
use Rattle.rules.specs.Questions.{after, refusal, version_known}
use Rattle.laws.proofs.Refusals.{first_yes, refusal_next, yes_first}
use Rattle.fields.proofs.Records.{length-records_of}
use Rattle.book_records.specs.Trade.{trade_of}
use Rattle.book_format.specs.Book.{book_of, bytes_of, length_by, length_of, mark, mark_of, count_of_trades, trades_at, place_of_user, count_of_users, version_of}
use Rattle.book_format.specs.Questions.{about_bytes, about_fields, about_form, book_number, Formed, marked, sized, versioned}
use Rattle.book_format.proofs.Written.{book_of_fits, formed_bytes_of}
use Rattle.book_tables.specs.Book.{as_book}
use Rattle.book_tables.specs.declared.Book.{Book}
use Rattle.book_value.specs.Written.{InCounts, about_writing, counts_in_range}
use Rattle.book_image.proofs.RoundTrip.{image_back}
use Rattle.book_image.specs.Image.{image_of, image_size, image_trades_at, image_user_size, image_users_at, read_image}
use Rattle.book_image.specs.ImageBook.{image_book, image_user_of, CountsOf}
use Rattle.exports.specs.Answers.{WrittenFrom}
use Rattle.exports.specs.Lent.{by_length}
use Rattle.round_trip.specs.RoundTrip.{ImageWrittenAndRead, WrittenAndRead}
use Rattle.round_trip.proofs.Operator.{operator_opened, operator_read}
use Rattle.round_trip.proofs.Typed.{trade_count_lem, typed_fits, user_count_lem}

-- no question refuses nothing
nothing_asked : refusal [] ≡ 0
unfolding refusal after
nothing_asked = refl

-- bytes of the right form pass the questions of the form
form_passes : (s : List ℕ) → Formed s → refusal (about_form s) ≡ 0
unfolding about_form marked versioned sized length_of length_by trades_at place_of_user
form_passes s f =
    let n = count_of_users s in
    let m = count_of_trades s in
    yes_first 1 (marked s) _ (and_i (leb 32 (length s)) (eqb (mark_of s) mark) (le→leb 32 (length s) f.head) (eqb_of (mark_of s) mark f.mark))
    ∙ yes_first 2 (versioned s) _ f.version
    ∙ yes_first 3 (sized s) []
    (and_i (leb 1 n && leb n 64) (leb m 256 && eqb (length s) (length_of s)) (and_i (leb 1 n) (leb n 64) (le→leb 1 n f.some) (le→leb n 64 f.users))
    (and_i (leb m 256) (eqb (length s) (length_of s)) (le→leb m 256 f.trades) (eqb_of (length s) (length_of s) f.whole)))
    ∙ nothing_asked

-- what was written of a book of a known version with counts in range passes, where its fields do
module _ (b : model.Book) (known : T (version_known b.header.version)) (some : 1 ≤ length b.users) (few : length b.users ≤ 64) (many : length b.trades ≤ 256) where
  passes : refusal (about_fields (bytes_of b)) ≡ 0 → refusal (about_bytes (bytes_of b)) ≡ 0
  unfolding about_bytes
  passes q = refusal_next (about_form (bytes_of b)) (about_fields (bytes_of b)) (form_passes _ (formed_bytes_of b known some few many)) ∙ q

-- the counts, as the questions of writing ask them
record Counts (users trades : ℕ) : Type 0 where
  some : 1 ≤ users
  few : users ≤ 64
  many : trades ≤ 256

in_range_lem : (users trades : ℕ) → T (counts_in_range users trades) → Counts users trades
unfolding counts_in_range
in_range_lem users trades k =
    let few = and_l (leb 1 users && leb users 64) (leb trades 256) k in
    record {
      some = leb→le 1 users (and_l (leb 1 users) (leb users 64) few);
      few = leb→le users 64 (and_r (leb 1 users) (leb users 64) few);
      many = leb→le trades 256 (and_r (leb 1 users && leb users 64) (leb trades 256) k);
    }

-- where no question of writing refuses: the version, the counts, and the questions of the bytes
record Asked (users trades : ℕ) (b : model.Book) : Type 0 where
  known : T (version_known b.header.version)
  counts : Counts users trades
  fields : refusal (about_fields (bytes_of b)) ≡ 0

asked : (users trades : ℕ) (b : model.Book) (room : ℕ) → refusal (about_writing users trades b room) ≡ 0 → Asked users trades b
unfolding about_writing
asked users trades b room q =
    let q2 = first_yes _ _ q tt in
    let q3 = first_yes _ _ q2.1 tt in
    record {
      known = q2.0;
      counts = in_range_lem users trades (and_l (counts_in_range users trades) (eqb room (length_by b.header.version users trades)) q3.0);
      fields = q3.1;
    }

-- ---- by fields

pub written_and_read : WrittenAndRead
unfolding after book_number as_book
written_and_read =
    record {
      same = λ b c out t r n typed w e read.
          let o = operator_opened read in
          let q = sym w.asked ∙ e in
          let a = asked b.user_count b.trade_count (as_book b) (length out) q in
          let k = a.counts in
          let counts : InCounts b = record { version = a.known; some = k.some; users = k.few; trades = k.many } in
          let i = user_count_lem b counts typed in
          let j = trade_count_lem b counts typed in
          let d : t ≡ bytes_of (as_book b) = w.part ∙ ap (λ (z : ℕ). after z (λ m. out) (bytes_of (as_book b))) q in
          let p : refusal (about_bytes (bytes_of (as_book b))) ≡ 0 = passes (as_book b) a.known (omega (arith, i, k.some)) (omega (arith, i, k.few)) (omega (arith, j, k.many)) a.fields in
          let h : n ≡ 0 = o.asked ∙ ap book_number d ∙ p in
          (h, (o.book h).book ∙ ap book_of d ∙ book_of_fits (as_book b) (typed_fits b counts typed));
    }

-- ---- by an image

-- the number 0 tells that the image had its length, and that no question refused
module _ (image out t : List ℕ) (r : ℕ) (w : WrittenFrom image out r t) (e : r ≡ 0) where
  abbrev about : ℕ
  about = refusal (about_writing (count_of_users image) (count_of_trades image) (image_book image) (length out))

  whole : length image ≡ image_size
  unfolding by_length
  whole = go (eqb (length image) image_size) refl
    where
      go : (x : Bool) → eqb (length image) image_size ≡ x → length image ≡ image_size
      go true h = eqb→eq (length image) image_size (holds h)
      go false h = absurd (omega (arith, e, w.number ∙ ap (λ (x : Bool). cond x about 255) h))

  by_whole : {A : Type 0} (x y : A) → by_length image_size image x y ≡ x
  unfolding by_length
  by_whole x y = rw (whole, eqb_refl image_size)

  none_refuses : about ≡ 0
  none_refuses = sym (by_whole _ _) ∙ sym w.number ∙ e

  bytes_written : t ≡ bytes_of (image_book image)
  unfolding after
  bytes_written = w.part ∙ by_whole _ _ ∙ ap (λ (o : ℕ). after o (λ n. out) (bytes_of (image_book image))) none_refuses

module _ (image : List ℕ) (counts : CountsOf image (count_of_users image) (count_of_trades image)) where
  image_users_lem : length (image_book image).users ≡ count_of_users image
  unfolding image_book
  image_users_lem = length-take (count_of_users image) _ ∙ omega (arith, counts.few, length-records_of image_user_size (image_user_of (version_of image)) 64 (drop image_users_at image))

  image_trades_lem : length (image_book image).trades ≡ count_of_trades image
  unfolding image_book
  image_trades_lem = length-take (count_of_trades image) _ ∙ omega (arith, counts.many, length-records_of 20 trade_of 256 (drop image_trades_at image))

  -- its version is the one that the book has
  image_known : T (version_known (image_book image).header.version) → T (version_known (version_of image))
  unfolding image_book book_of
  image_known h = h

pub image_written_and_read : ImageWrittenAndRead
unfolding by_length read_image after book_number
image_written_and_read =
    record {
      same = λ image out t lent again r n bytes w e l read.
          let o = operator_read t read in
          let q = none_refuses image out t r w e in
          let a = asked (count_of_users image) (count_of_trades image) (image_book image) (length out) q in
          let k = a.counts in
          let counts : CountsOf image (count_of_users image) (count_of_trades image) = record {
            whole = whole image out t r w e;
            users = refl;
            trades = refl;
            some = k.some;
            few = k.few;
            many = k.many;
          } in
          let i = image_users_lem image counts in
          let j = image_trades_lem image counts in
          let d : t ≡ bytes_of (image_book image) = bytes_written image out t r w e in
          let p : refusal (about_bytes t) ≡ 0 = ap (λ x. refusal (about_bytes x)) d
          ∙ passes (image_book image) a.known (omega (arith, i, k.some)) (omega (arith, i, k.few)) (omega (arith, j, k.many)) a.fields in
          let y : eqb (length lent) image_size ≡ true = ap (λ (x : ℕ). eqb x image_size) l ∙ refl in
          let m : again ≡ image_of t = o.part ∙ ap (λ (x : Bool). cond x (read_image t) lent) y ∙ ap (λ (z : ℕ). after z (λ k. replicate image_size 0) (image_of t)) p in (
            o.number ∙ ap (λ (x : Bool). cond x (book_number t) 255) y ∙ p,
            ap image_book (m ∙ ap image_of d) ∙ image_back counts bytes (image_known image counts a.known),
          );
    }
