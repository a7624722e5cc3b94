-- The ways out of writing, by the questions; and the form of what a struct with counts in range is written as. Assumes nothing.
use Rattle.base.specs.Basics.{◌≡◌, ◌∙◌, ◌&&◌, false, true, List, map, ℕ, arith, T, eqb, leb, leb→le, length, length-map, length-take, sym, take}
use Rattle.book_tables.specs.Book.{as_book, kept_managers}
use Rattle.book_tables.specs.declared.Book.{Book}
use Rattle.book_format.proofs.Written.{formed_bytes_of, length_bytes_of}
use Rattle.book_format.specs.Book.{bytes_of, length_by}
use Rattle.book_format.specs.Questions.{Formed, about_fields}
use Rattle.laws.proofs.Refusals.{after_nonzero}
use Rattle.base.proofs.Tests.{and_l, and_r, holds}
use Rattle.book_questions.specs.Asked.{fields_number_of}
use Rattle.book_records.specs.Trade.{as_trade}
use Rattle.book_tables.specs.Record.{as_record}
use Rattle.rules.specs.Book as model
use Rattle.rules.specs.Questions.{after, refusal, version_known}
use Rattle.book_value.specs.Written.{InCounts, WrittenAs, about_writing, counts_in_range}

-- the tests of version and counts, as facts
pub in_counts : (b : Book) → version_known b.version ≡ true → counts_in_range b.user_count b.trade_count ≡ true → InCounts b
unfolding counts_in_range
in_counts b v k =
    let t : T ((leb 1 b.user_count && leb b.user_count 64) && leb b.trade_count 256) = rw k tt in
    record {
      version = holds v;
      some = leb→le 1 b.user_count (search (and_l, and_r));
      users = leb→le b.user_count 64 (search (and_l, and_r));
      trades = leb→le b.trade_count 256 (search (and_l, and_r));
    }

-- a struct of a known version with counts in range is written as bytes of the right form
pub formed_written : (b : Book) → InCounts b → length b.users ≡ 64 → length b.trades ≡ 256 → Formed (bytes_of (as_book b))
unfolding as_book
formed_written b c u t =
    let n : length (map (λ u. kept_managers b.version (as_record u)) (take b.user_count b.users)) ≡ b.user_count = rw (length-map, length-take) (omega (arith, c.users)) in
    let m : length (map as_trade (take b.trade_count b.trades)) ≡ b.trade_count = rw (length-map, length-take) (omega (arith, c.trades)) in
    formed_bytes_of (as_book b) c.version (omega (arith, c.some)) (omega (arith, c.users)) (omega (arith, c.trades))

-- and of the length that the counts ask for
pub length_written : (b : Book) → InCounts b → length b.users ≡ 64 → length b.trades ≡ 256 → length (bytes_of (as_book b)) ≡ length_by b.version b.user_count b.trade_count
unfolding as_book
length_written b c u t =
    let n : length (map (λ u. kept_managers b.version (as_record u)) (take b.user_count b.users)) ≡ b.user_count = rw (length-map, length-take) (omega (arith, c.users)) in
    let m : length (map as_trade (take b.trade_count b.trades)) ≡ b.trade_count = rw (length-map, length-take) (omega (arith, c.trades)) in
    length_bytes_of (as_book b) ∙ rw (n, m)

module _ (users trades : ℕ) (b : model.Book) (s : List ℕ) where
  pub written_2 : version_known b.header.version ≡ false → WrittenAs users trades b s 2 s
  unfolding about_writing refusal after
  written_2 h = record { asked = rw h; part = rw h }

  module _ (v : version_known b.header.version ≡ true) where
    pub written_3 : (counts_in_range users trades && eqb (length s) (length_by b.header.version users trades)) ≡ false → WrittenAs users trades b s 3 s
    unfolding about_writing refusal after
    written_3 h = record { asked = rw (v, h); part = rw (v, h) }

    module _ (k : (counts_in_range users trades && eqb (length s) (length_by b.header.version users trades)) ≡ true) where
      fields_left : refusal (about_writing users trades b (length s)) ≡ refusal (about_fields (bytes_of b))
      unfolding about_writing refusal after
      fields_left = rw (v, k)

      pub written_refused : (n : ℕ) → n ≡ fields_number_of (bytes_of b) → (n ≡ 0 → ⊥) → WrittenAs users trades b s n s
      unfolding fields_number_of
      written_refused n e h = record { asked = rw fields_left e; part = rw (fields_left, ← e) (sym (after_nonzero (λ k. s) (bytes_of b) h)) }

      pub written_0 : fields_number_of (bytes_of b) ≡ 0 → (t : List ℕ) → t ≡ bytes_of b → WrittenAs users trades b s 0 t
      unfolding fields_number_of after
      written_0 e t f = record { asked = rw (fields_left, e); part = rw (fields_left, e) f }
