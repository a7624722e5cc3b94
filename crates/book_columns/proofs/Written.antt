-- The three parts of rearranged bytes written one after the other. Assumes nothing.
use Rattle.base.specs.Basics.{◌≡◌, sym, ◌∙◌, Bool, List, ℕ, ◌+◌, ◌*◌, arith, length, take, drop, sets, take_all}
use Rattle.fields.specs.Field.{set_field}
use Rattle.fields.proofs.Sets.{sets_three}
use Rattle.columns.specs.Columns.{arranged}
use Rattle.book_format.specs.Book.{size_of_header, count_of_trades, trade_size, trades_at, count_of_users, size_of_user, version_of}
use Rattle.book_columns.specs.Form.{Laid, header_part, rearranged, trade_fields, trades_part, user_fields, users_part}
use Rattle.book_columns.proofs.Rearranged.{length-header, length-trades_part, length-trades, length-users, trades_begin}

-- header, users and trades are all of the bytes
pub parts_long : {s : List ℕ} {version n m users : ℕ} → Laid s → version ≡ version_of s → n ≡ count_of_users s → m ≡ count_of_trades s → users ≡ size_of_header version
    → users + size_of_user version * n + trade_size version * m ≡ length s
parts_long l v un tn ub = rw (ub, v, un, tn) (omega (arith, l.whole, trades_begin l))

module _ {s : List ℕ} (out : List ℕ) (l : Laid s) (e : length out ≡ length s) (back : Bool) (new_mark : ℕ) where
  -- header, users and trades, from where they begin
  pub all_written : {version n m users trades : ℕ} → version ≡ version_of s → n ≡ count_of_users s → m ≡ count_of_trades s → users ≡ size_of_header version → trades ≡ users + size_of_user version * n
      → sets (sets (sets out 0 (set_field 3 0 new_mark (take users s))) users (arranged back (user_fields version) n (take (size_of_user version * n) (drop users s))))
      trades (arranged back (trade_fields version) m (take (trade_size version * m) (drop trades s))) ≡ rearranged back new_mark s
  unfolding rearranged
  all_written {version} {n} {m} {users} {trades} v un tn ub tb =
      let begin : trades ≡ trades_at s = tb ∙ (rw (ub, v, un) (sym (trades_begin l))) in
      let all : take (trade_size (version_of s) * count_of_trades s) (trades_part s) ≡ trades_part s = take_all (trade_size (version_of s) * count_of_trades s) (trades_part s) (omega (arith, length-trades_part l)) in
      rw (begin, ub, v, un, tn, all)
      (sets_three (set_field 3 0 new_mark (header_part s)) (arranged back (user_fields (version_of s)) (count_of_users s) (users_part s)) (arranged back (trade_fields (version_of s)) (count_of_trades s) (trades_part s)) out (size_of_header (version_of s)) (trades_at s)
      (length-header l back new_mark) (omega (arith, length-users l back new_mark, trades_begin l)) (omega (arith, e, l.whole, length-trades l back new_mark)))
