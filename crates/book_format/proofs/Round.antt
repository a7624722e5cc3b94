-- A book that is read and written again: the same bytes. Assumes nothing.
use Rattle.base.specs.Basics.{◌≡◌, refl, sym, ap, ap₂, ◌∙◌, true, List, ◌++◌, append-nil, ◌*◌, ◌+◌, ◌≤◌, ℕ, arith, drop, length, length-drop, take}
use Rattle.base.specs.Basics.{take-append-drop, drop-drop, take-add, take_all}
use Rattle.base.proofs.Tests.{by_case}
use Rattle.fields.proofs.{Field.all_bytes_drop, Pack.pack_fields_at, Records.bytes_of_records-records_of, Records.every_part_map}
use Rattle.fields.specs.{Field.AllBytes, Layout.bytes_of_records, Layout.fields_at, Layout.pack, Layout.size}
use Rattle.book_format.proofs.Offsets.{header_plain, header_selling, selling_none, users_end}
use Rattle.book_format.proofs.Passed.{Passed, length-trades_of, length-users_of}
use Rattle.book_format.specs.Book.{book_of, bytes_of, header_bytes, size_of_header, header_values, header_widths, mark_of, prices_of, selling_tariff_at, selling_bytes}
use Rattle.book_format.specs.Book.{selling_widths, count_of_trades, trades_at, trades_of, place_of_user, count_of_users, user_record, size_of_user, users_of, version_of}
use Rattle.book_format.specs.Questions.{Formed}
use Rattle.book_records.proofs.{Trades.trade_bytes_of, Users.record_bytes_of}
use Rattle.book_records.specs.{Trade.trade_bytes, Trade.trade_of, Trade.trade_zeros, User.user_of, User.user_zeros}
use Rattle.rules.specs.Areas.{managers_in, selling_in}

-- the fields that every version has
start_back : (s : List ℕ) → AllBytes s → Formed s → pack header_widths (header_values (book_of s)) ≡ take 32 s
unfolding header_widths header_values book_of prices_of size fields_at mark_of version_of count_of_users count_of_trades
start_back s b f =
    let e : pack header_widths (fields_at header_widths 0 s) ≡ take 32 s = pack_fields_at header_widths 0 s (omega (arith, f.head)) b in
    rw (length-users_of s, length-trades_of s) (rw f.mark at e)

-- the selling tariffs, in a version that has them
pub selling_back : (s : List ℕ) → AllBytes s → size_of_header (version_of s) ≤ length s → selling_in (version_of s) ≡ true → selling_bytes (version_of s) (prices_of s) ≡ take 8 (drop 32 s)
unfolding selling_bytes prices_of selling_tariff_at selling_widths size fields_at
selling_back s b h e = rw e (pack_fields_at selling_widths 32 s (omega (arith, h, header_selling (version_of s) e)) b)

pub header_back : (s : List ℕ) → AllBytes s → Formed s → header_bytes (book_of s) ≡ take (size_of_header (version_of s)) s
unfolding header_bytes book_of
header_back s b f =
    by_case (selling_in (version_of s))
    (λ e. ap₂ (λ (x y : List ℕ). x ++ y) (start_back s b f) (selling_back s b (omega (arith, f.whole, users_end s {n = count_of_users s} refl refl refl)) e) ∙ sym (take-add 32 8 s) ∙ ap (λ (n : ℕ). take n s) (sym (header_selling (version_of s) e)))
    (λ e.
    ap₂ (λ (x y : List ℕ). x ++ y) (start_back s b f) (selling_none (version_of s) (prices_of s) e)
    ∙ append-nil (take 32 s)
    ∙ ap (λ (n : ℕ). take n s) (sym (header_plain (version_of s) e)))

users_back : (s : List ℕ) → AllBytes s → Passed s → bytes_of_records (user_record (version_of s)) (users_of s) ≡ take (size_of_user (version_of s) * count_of_users s) (drop (size_of_header (version_of s)) s)
unfolding users_of size_of_user user_record trades_at place_of_user
users_back s b h =
    let H = size_of_header (version_of s) in
    let W = size_of_user (version_of s) in
    bytes_of_records-records_of W user_of (user_record (version_of s)) (count_of_users s) (drop H s)
    (every_part_map (λ c. user_zeros c ≡ 0) (λ c. user_record (version_of s) (user_of c) ≡ c) W (count_of_users s) (drop H s) (record_bytes_of (managers_in (version_of s))) (rw length-drop (omega (arith, h.form.whole))) (all_bytes_drop H s b) h.user_zeros_lem)

trades_back : (s : List ℕ) → AllBytes s → Passed s → bytes_of_records trade_bytes (trades_of s) ≡ take (20 * count_of_trades s) (drop (trades_at s) s)
unfolding trades_of
trades_back s b h =
    let a = trades_at s in
    bytes_of_records-records_of 20 trade_of trade_bytes (count_of_trades s) (drop a s)
    (every_part_map (λ c. trade_zeros c ≡ 0) (λ c. trade_bytes (trade_of c) ≡ c) 20 (count_of_trades s) (drop a s) trade_bytes_of (rw length-drop (omega (arith, h.form.whole))) (all_bytes_drop a s b) h.trade_zeros_lem)

pub bytes_of_book_of : (s : List ℕ) → AllBytes s → Passed s → bytes_of (book_of s) ≡ s
unfolding bytes_of book_of trades_at place_of_user
bytes_of_book_of s b h =
    let H = size_of_header (version_of s) in
    let n = count_of_users s in
    let m = count_of_trades s in
    let users = size_of_user (version_of s) * n in
    let a = H + users in
    let q : drop users (drop H s) ≡ drop a s = drop-drop users H s in
    let k : take (20 * m) (drop a s) ≡ drop a s = take_all (20 * m) (drop a s) (rw length-drop (omega (arith, h.form.whole))) in
    rw (header_back s b h.form, users_back s b h, trades_back s b h, k, ← q, take-append-drop, take-append-drop)
