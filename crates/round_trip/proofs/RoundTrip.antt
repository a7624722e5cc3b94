-- Reading and writing back gives the same bytes: what was read passes the questions of writing, and the bytes of the book that bytes hold are these bytes. Assumes nothing.
use Rattle.base.specs.Basics.{◌≡◌, ap, refl, sym, ◌∙◌, Bool, ◌&&◌, cond, true, false, List, ℕ, arith, eqb, leb, le→leb, length}
use Rattle.base.specs.Basics.{replicate}
use Rattle.book_tables.specs.Book.{as_book}
use Rattle.book_tables.specs.declared.Book.{Book}
use Rattle.exports.specs.Lent.{Stored, by_length}
use Rattle.fields.specs.Field.{AllBytes}
use Rattle.book_format.proofs.Formed.{book_passed}
use Rattle.book_format.proofs.Passed.{passed}
use Rattle.book_format.proofs.Round.{bytes_of_book_of}
use Rattle.book_format.specs.Book.{book_of, bytes_of, length_by, count_of_trades, trades_at, place_of_user, count_of_users, version_of}
use Rattle.book_format.specs.Questions.{about_bytes, about_fields, about_form, book_number}
use Rattle.book_image.proofs.RoundTrip.{image_book_lem, image_length, same_counts}
use Rattle.book_image.specs.ImageBook.{image_book}
use Rattle.book_image.specs.Image.{image_of, image_size, read_image}
use Rattle.laws.proofs.Refusals.{append_yes, yes_first}
use Rattle.base.proofs.Tests.{and_i, eqb_of}
use Rattle.rules.specs.Book as model
use Rattle.rules.specs.Questions.{after, refusal, version_known}
use Rattle.book_value.specs.Written.{about_writing, counts_in_range}
use Rattle.round_trip.proofs.Operator.{operator_opened, operator_read}
use Rattle.round_trip.specs.RoundTrip.{ImageReadAndWritten, ReadAndWritten}

-- ---- accepted bytes and a part of their length

module _ (s : List ℕ) (bytes : AllBytes s) (h : book_number s ≡ 0) where
  -- the book that the bytes hold passes the questions of writing
  none_refuses : refusal (about_writing (count_of_users s) (count_of_trades s) (book_of s) (length s)) ≡ 0
  unfolding about_writing counts_in_range book_of about_bytes length_by trades_at place_of_user
  none_refuses =
      let p = passed s h in
      let f = p.form in
      let n = count_of_users s in
      let m = count_of_trades s in
      let q : refusal (about_fields s) ≡ 0 = (append_yes (about_form s) (about_fields s) (book_passed s h)).1 in
      let l = length_by (version_of s) n m in
      yes_first 2 (version_known (version_of s)) _ f.version
      ∙ yes_first 3 (((leb 1 n && leb n 64) && leb m 256) && eqb (length s) l) _
      (and_i ((leb 1 n && leb n 64) && leb m 256) (eqb (length s) l)
      (and_i (leb 1 n && leb n 64) (leb m 256) (and_i (leb 1 n) (leb n 64) (le→leb 1 n f.some) (le→leb n 64 f.users)) (le→leb m 256 f.trades))
      (eqb_of (length s) l f.whole))
      ∙ ap (λ x. refusal (about_fields x)) (bytes_of_book_of s bytes p) ∙ q

  -- so what is written of that book, with these counts, are the bytes
  written_back :
      (users trades : ℕ) (b : model.Book) (out t : List ℕ) (r : ℕ)
      → users ≡ count_of_users s → trades ≡ count_of_trades s → b ≡ book_of s → length out ≡ length s
      → r ≡ refusal (about_writing users trades b (length out))
      → t ≡ after (refusal (about_writing users trades b (length out))) (λ n. out) (bytes_of b)
      → (r ≡ 0) × (t ≡ s)
  unfolding after
  written_back users trades b out t r n m k l number part =
      let q : refusal (about_writing users trades b (length out)) ≡ 0 = rw (k, n, m, l) none_refuses in
      (number ∙ q, part ∙ ap (λ (z : ℕ). after z (λ i. out) (bytes_of b)) q ∙ ap bytes_of k ∙ bytes_of_book_of s bytes (passed s h))

-- ---- by fields

pub read_and_written : ReadAndWritten
read_and_written =
    record {
      same = λ s out t n r b bytes read e l w.
          let o = operator_opened read in
          let k = o.book e in
          written_back s bytes (sym o.asked ∙ e) b.user_count b.trade_count (as_book b) out t r k.users k.trades k.book l w.asked w.part;
    }

-- ---- by an image

-- the number 0 tells that the lent part had the length of an image
lent_whole : (s lent image : List ℕ) (n : ℕ) → Stored image_size lent (book_number s) (read_image s) n image → n ≡ 0 → (n ≡ book_number s) × (image ≡ read_image s)
unfolding by_length
lent_whole s lent image n o e = go (eqb (length lent) image_size) refl
  where
    go : (t : Bool) → eqb (length lent) image_size ≡ t → (n ≡ book_number s) × (image ≡ read_image s)
    go true t = (o.number ∙ ap (λ (x : Bool). cond x (book_number s) 255) t, o.part ∙ ap (λ (x : Bool). cond x (read_image s) lent) t)
    go false t = absurd (omega (arith, e, o.number ∙ ap (λ (x : Bool). cond x (book_number s) 255) t))

pub image_read_and_written : ImageReadAndWritten
unfolding by_length read_image after
image_read_and_written =
    record {
      same = λ s lent image out t n r bytes read e l w.
          let o = operator_read s read in
          let h : book_number s ≡ 0 = sym (lent_whole s lent image n o e).0 ∙ e in
          let f = (passed s h).form in
          let i : image ≡ image_of s = (lent_whole s lent image n o e).1 ∙ ap (λ (z : ℕ). after z (λ k. replicate image_size 0) (image_of s)) (book_passed s h) in
          let whole : eqb (length image) image_size ≡ true = ap (λ x. eqb (length x) image_size) i ∙ ap (λ x. eqb x image_size) (image_length s f) in
          let q = refusal (about_writing (count_of_users image) (count_of_trades image) (image_book image) (length out)) in
          written_back s bytes h (count_of_users image) (count_of_trades image) (image_book image) out t r
          (ap count_of_users i ∙ (same_counts s f).0) (ap count_of_trades i ∙ (same_counts s f).1) (ap image_book i ∙ image_book_lem s f) l
          (w.number ∙ ap (λ (x : Bool). cond x q 255) whole)
          (w.part ∙ ap (λ (x : Bool). cond x (after q (λ k. out) (bytes_of (image_book image))) out) whole);
    }
