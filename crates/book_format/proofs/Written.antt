-- A book that is written and read again: what was written are bytes, they pass every question, and the book that they hold is the book. Assumes nothing.
use Rattle.base.specs.Basics.{◌≡◌, refl, sym, ◌∙◌, ap, ◌&&◌, true, false, none, some, List, [], ◌++◌, ◌∷◌, append_assoc, append-nil, ◌*◌, ◌+◌, ◌<◌, ◌^◌, ℕ, ◌/◌}
use Rattle.base.specs.Basics.{◌≤◌, zero-add, arith, T, eqb, leb→le, eqb_refl, leb, le→leb, length, length-append, drop, get_or, sets, drop_at, take_at, drop-drop}
use Rattle.fields.proofs.Field.{all_bytes_append, field-append, length_to_bytes}
use Rattle.fields.proofs.Pack.{all_bytes_pack, length-pack, fields_at_pack, set_fields-sets}
use Rattle.fields.proofs.{Records.all_bytes_records, Records.length-bytes_of_records, Records.records_of-bytes_of_records, Sets.sets-append, Sets.sets_three}
use Rattle.fields.specs.Field.{AllBytes, field, to_bytes}
use Rattle.fields.specs.Layout.{Every, bytes_of_records, pack, records_of, size, FitAll, fields_at, set_fields}
use Rattle.book_format.specs.Book.{bytes_of, header_bytes, size_of_header, header_values, header_widths, book_of, length_by, length_of, mark, mark_of, prices_of}
use Rattle.book_format.specs.Book.{selling_tariff_at, selling_bytes, selling_widths, count_of_trades, trades_at, trades_of, place_of_user, count_of_users, user_record, size_of_user}
use Rattle.book_format.specs.Book.{users_of, version_of}
use Rattle.book_format.specs.Questions.{parts_of, about_bytes, about_fields, about_form, book_number, marked, sized, trade_zeros_valid, user_zeros_valid}
use Rattle.book_format.specs.Questions.{versioned, Formed}
use Rattle.book_format.proofs.Offsets.{header_plain, header_range, header_selling, known-lt, length_by_lem, length-user_record, zeros_user_record}
use Rattle.book_format.proofs.Fits.{every_record, every_trade}
use Rattle.laws.proofs.{Bounds.prices-le, Bounds.selling_le, Bounds.selling_most_lem, Refusals.yes_first}
use Rattle.laws.specs.Sound.{Sound}
use Rattle.base.proofs.Tests.{and_l, and_r, and_i, by_case, eqb_of, same_test}
use Rattle.book_records.proofs.Trades.{all_bytes_trade_bytes, length-trade_bytes, trade_of_bytes, trade_zeros-trade_bytes}
use Rattle.book_records.proofs.Users.{all_bytes_record_bytes, user_of_record}
use Rattle.book_records.specs.{Trade.FitsTrade, Trade.trade_bytes, Trade.trade_of, Trade.trade_zeros, User.FitsRecord, User.user_of, User.user_zeros}
use Rattle.rules.specs.{Areas.Prices, Areas.managers_in, Areas.selling_in, Book.Book, Book.Trade, Book.User, Calendar.real_day, Calendar.year_of}
use Rattle.rules.specs.Questions.{positions_are_valid, trade_is_valid, user_is_valid, after, counts_are_valid, groups_valid, header_is_valid, ids_rise, refusal, most_selling}
use Rattle.rules.specs.Questions.{users_are_valid, version_known, version_is_valid}
use Rattle.base.specs.Lists.{all}

-- ---- what was written are bytes, as many as the counts say

length-start : (b : Book) → length (pack header_widths (header_values b)) ≡ 32
unfolding header_widths header_values size
length-start b = length-pack header_widths (header_values b) refl

pub length-header : (b : Book) → length (header_bytes b) ≡ size_of_header b.header.version
unfolding header_bytes selling_bytes selling_widths size
length-header b =
    by_case (selling_in b.header.version)
    (λ e. rw (e, length-append, length-start b, header_selling b.header.version e, length-pack selling_widths (b.header.prices.s ∷ b.header.prices.u ∷ []) refl))
    (λ e. rw (e, append-nil, header_plain b.header.version e) (length-start b))

pub length_bytes_of : (b : Book) → length (bytes_of b) ≡ length_by b.header.version (length b.users) (length b.trades)
unfolding bytes_of
length_bytes_of b =
    rw (length-append, length-append, length-header b, length-bytes_of_records (user_record b.header.version) (size_of_user b.header.version) (length-user_record b.header.version) b.users, length-bytes_of_records trade_bytes 20 length-trade_bytes b.trades, length_by_lem)
    (omega arith)

-- ---- written part by part

module _ (b : Book) where
  -- the fields of the header up to the date
  abbrev pub start_values : List ℕ
  start_values = mark ∷ b.header.version ∷ length b.users ∷ length b.trades ∷ b.header.date ∷ []

  -- the prices and tolls of the header
  abbrev pub price_values : List ℕ
  price_values = b.header.prices.p ∷ b.header.prices.q ∷ b.header.prices.l ∷ b.header.prices.x ∷ b.header.prices.i ∷ []

  -- with the selling tariffs behind them
  pub header_written : (out : List ℕ)
      → sets (set_fields (4 ∷ 4 ∷ 4 ∷ 4 ∷ 4 ∷ []) 12 price_values (set_fields (3 ∷ 2 ∷ 1 ∷ 2 ∷ 4 ∷ []) 0 start_values out)) 32 (selling_bytes b.header.version b.header.prices)
      ≡ sets out 0 (header_bytes b)
  unfolding set_fields header_widths header_values header_bytes
  header_written out =
      let start = pack header_widths (header_values b) in
      let selling = selling_bytes b.header.version b.header.prices in
      ap (λ (l : List ℕ). sets l 32 selling) (set_fields-sets header_widths 0 (start_values ++ price_values) out)
      ∙ ap (λ (i : ℕ). sets (sets out 0 start) i selling) (sym (length-start b))
      ∙ ap (λ (i : ℕ). sets (sets out 0 start) i selling) (sym (zero-add (length start)))
      ∙ sym (sets-append start selling out 0)

  -- header, users and trades, over bytes of the book's length
  pub parts_written : (out : List ℕ) {at : ℕ} → at ≡ size_of_header b.header.version → length out ≡ length_by b.header.version (length b.users) (length b.trades)
      → sets (sets (sets out 0 (header_bytes b)) at (bytes_of_records (user_record b.header.version) b.users)) (at + size_of_user b.header.version * length b.users) (bytes_of_records trade_bytes b.trades) ≡ bytes_of b
  unfolding bytes_of
  parts_written out {at} e h =
      let us = bytes_of_records (user_record b.header.version) b.users in
      let ts = bytes_of_records trade_bytes b.trades in
      let eu = length-bytes_of_records (user_record b.header.version) (size_of_user b.header.version) (length-user_record b.header.version) b.users in
      let et = length-bytes_of_records trade_bytes 20 length-trade_bytes b.trades in
      let n = length_by_lem b.header.version (length b.users) (length b.trades) in
      sets_three (header_bytes b) us ts out at (at + size_of_user b.header.version * length b.users) (length-header b ∙ sym e) (omega arith) (omega arith)

every_of : {R : Type 0} (P : R → Type 0) → ((r : R) → P r) → (rs : List R) → Every P rs
every_of P h [] = tt
every_of P h (r ∷ rs) = (h r, every_of P h rs)

all_bytes_header : (b : Book) → AllBytes (header_bytes b)
unfolding header_bytes selling_bytes
all_bytes_header b =
    let start = pack header_widths (header_values b) in
    let selling = pack selling_widths (b.header.prices.s ∷ b.header.prices.u ∷ []) in
    by_case (selling_in b.header.version) (λ e. rw e (all_bytes_append start selling (all_bytes_pack _ _) (all_bytes_pack _ _))) (λ e. rw (e, append-nil) (all_bytes_pack _ _))

pub all_bytes_bytes_of : (b : Book) → AllBytes (bytes_of b)
unfolding bytes_of user_record
all_bytes_bytes_of b =
    let us = bytes_of_records (user_record b.header.version) b.users in
    let ts = bytes_of_records trade_bytes b.trades in
    all_bytes_append (header_bytes b) (us ++ ts) (all_bytes_header b)
    (all_bytes_append us ts (all_bytes_records (user_record b.header.version) b.users (every_of (λ u. AllBytes (user_record b.header.version u)) (all_bytes_record_bytes (managers_in b.header.version)) b.users))
    (all_bytes_records trade_bytes b.trades (every_of (λ t. AllBytes (trade_bytes t)) all_bytes_trade_bytes b.trades)))

-- the zero bytes of every record that was written
written_zeros : {R : Type 0} (z : List ℕ → ℕ) (len : ℕ) (bytes : R → List ℕ) → ((r : R) → length (bytes r) ≡ len) → ((r : R) → z (bytes r) ≡ 0)
    → (rs : List R) (q : List ℕ) → T (all (λ c. eqb (z c) 0) (parts_of len (length rs) (bytes_of_records bytes rs ++ q)))
unfolding parts_of records_of all bytes_of_records
written_zeros z len bytes l e [] q = tt
written_zeros z len bytes l e (r ∷ rs) q =
    rw (append_assoc (bytes r) (bytes_of_records bytes rs) q, take_at (bytes r) (bytes_of_records bytes rs ++ q) len (l r), drop_at (bytes r) (bytes_of_records bytes rs ++ q) len (l r), e r)
    (written_zeros z len bytes l e rs q)

-- ---- the form of what was written, whatever the other fields are

module _ (b : Book) where
  -- the header's bytes from the version on, from the user count on, and so on
  from_trades : List ℕ
  from_trades =
      let h = b.header in
      pack (4 ∷ 4 ∷ 4 ∷ 4 ∷ 4 ∷ 4 ∷ []) (h.date ∷ h.prices.p ∷ h.prices.q ∷ h.prices.l ∷ h.prices.x ∷ h.prices.i ∷ [])
      ++ (selling_bytes h.version h.prices ++ (bytes_of_records (user_record b.header.version) b.users ++ bytes_of_records trade_bytes b.trades))

  start_bytes : bytes_of b
      ≡ to_bytes 3 mark ++ (to_bytes 2 b.header.version ++ (to_bytes 1 (length b.users) ++ (to_bytes 2 (length b.trades) ++ from_trades)))
  unfolding bytes_of header_bytes header_widths header_values pack from_trades
  start_bytes = simp append_assoc

  module _ (known : T (version_known b.header.version)) (some : 1 ≤ length b.users) (users : length b.users ≤ 64) (trades : length b.trades ≤ 256) where
    pub formed_bytes_of : Formed (bytes_of b)
    unfolding mark_of version_of count_of_users count_of_trades mark trades_at place_of_user length_by
    formed_bytes_of =
        let n = length b.users in
        let m = length b.trades in
        let fits = known-lt b.header.version known in
        let rest = to_bytes 2 m ++ from_trades in
        let e = start_bytes in
        let k : mark_of (bytes_of b) ≡ mark = rw e (field-append 3 0 mark [] (to_bytes 2 b.header.version ++ (to_bytes 1 n ++ rest)) refl (omega arith)) in
        let w : version_of (bytes_of b) ≡ b.header.version = rw e (field-append 2 3 b.header.version (to_bytes 3 mark) (to_bytes 1 n ++ rest) (length_to_bytes 3 mark) (omega arith)) in
        let u : count_of_users (bytes_of b) ≡ n = rw (e, ← append_assoc) (field-append 1 5 n (to_bytes 3 mark ++ to_bytes 2 b.header.version) rest (rw (length-append, length_to_bytes, length_to_bytes) refl) (omega arith)) in
        let t : count_of_trades (bytes_of b) ≡ m = rw (e, ← append_assoc, ← append_assoc) (field-append 2 6 m ((to_bytes 3 mark ++ to_bytes 2 b.header.version) ++ to_bytes 1 n) from_trades (rw (length-append, length-append, length_to_bytes, length_to_bytes, length_to_bytes) refl) (omega arith)) in
        record {
          head = omega (arith, length_bytes_of b, length_by_lem b.header.version n m, header_range b.header.version);
          mark = k;
          version = rw w known;
          some = omega arith;
          users = omega arith;
          trades = omega arith;
          whole = rw (w, u, t) (length_bytes_of b);
        }

-- ---- a book whose fields fit their bytes is read as it was written

-- selling tariffs fit their bytes, and are 0 in a version that has none
pub record FitsSelling (version : ℕ) (f : Prices) : Type 0 where
  pub s : f.s < 2 ^ 32
  pub u : f.u < 2 ^ 32
  pub none : selling_in version ≡ false → (f.s ≡ 0) × (f.u ≡ 0)

-- each field of a book fits its bytes
pub record FitsBook (b : Book) : Type 0 where
  pub header : FitAll header_widths (header_values b)
  pub selling : FitsSelling b.header.version b.header.prices
  pub users : Every (FitsRecord (managers_in b.header.version)) b.users
  pub trades : Every FitsTrade b.trades

every_map : {R : Type 0} {P Q : R → Type 0} → ((r : R) → P r → Q r) → (rs : List R) → Every P rs → Every Q rs
every_map f [] h = tt
every_map f (r ∷ rs) h = (f r h.0, every_map f rs h.1)

user_back : (version : ℕ) (u : User) → FitsRecord (managers_in version) u → (user_of (user_record version u) ≡ u) × (length (user_record version u) ≡ size_of_user version)
unfolding user_record
user_back version u f = (user_of_record (managers_in version) u f.user f.managers, length-user_record version u)

trade_back : (t : Trade) → FitsTrade t → (trade_of (trade_bytes t) ≡ t) × (length (trade_bytes t) ≡ 20)
trade_back t f = (trade_of_bytes t f, length-trade_bytes t)

module _ (b : Book) (f : FitsBook b) where
  -- what stands behind the header
  records : List ℕ
  records = bytes_of_records (user_record b.header.version) b.users ++ bytes_of_records trade_bytes b.trades

  header_fields : fields_at header_widths 0 (bytes_of b) ≡ header_values b
  unfolding bytes_of header_bytes records
  header_fields =
      let selling = selling_bytes b.header.version b.header.prices in
      rw append_assoc (fields_at_pack header_widths (header_values b) [] (selling ++ records) 0 refl f.header)

  -- the selling tariffs, in a version that has them
  selling_fields : selling_in b.header.version ≡ true → fields_at selling_widths 32 (bytes_of b) ≡ b.header.prices.s ∷ b.header.prices.u ∷ []
  unfolding bytes_of header_bytes selling_bytes records selling_widths
  selling_fields e =
      rw (e, append_assoc)
      (fields_at_pack selling_widths (b.header.prices.s ∷ b.header.prices.u ∷ []) (pack header_widths (header_values b)) records 32 (length-start b) (f.selling.s, (f.selling.u, tt)))

  record Header : Type 0 where
    mark : mark_of (bytes_of b) ≡ mark
    version : version_of (bytes_of b) ≡ b.header.version
    users : count_of_users (bytes_of b) ≡ length b.users
    trades : count_of_trades (bytes_of b) ≡ length b.trades
    date : field 4 8 (bytes_of b) ≡ b.header.date
    p : field 4 12 (bytes_of b) ≡ b.header.prices.p
    q : field 4 16 (bytes_of b) ≡ b.header.prices.q
    l : field 4 20 (bytes_of b) ≡ b.header.prices.l
    x : field 4 24 (bytes_of b) ≡ b.header.prices.x
    i : field 4 28 (bytes_of b) ≡ b.header.prices.i

  header : Header
  unfolding header_widths header_values fields_at mark_of version_of count_of_users count_of_trades
  header =
      record {
        mark = ap (λ (vs : List ℕ). get_or vs 0 0) header_fields;
        version = ap (λ (vs : List ℕ). get_or vs 1 0) header_fields;
        users = ap (λ (vs : List ℕ). get_or vs 2 0) header_fields;
        trades = ap (λ (vs : List ℕ). get_or vs 3 0) header_fields;
        date = ap (λ (vs : List ℕ). get_or vs 4 0) header_fields;
        p = ap (λ (vs : List ℕ). get_or vs 5 0) header_fields;
        q = ap (λ (vs : List ℕ). get_or vs 6 0) header_fields;
        l = ap (λ (vs : List ℕ). get_or vs 7 0) header_fields;
        x = ap (λ (vs : List ℕ). get_or vs 8 0) header_fields;
        i = ap (λ (vs : List ℕ). get_or vs 9 0) header_fields;
      }

  selling_written : (selling_tariff_at 32 (bytes_of b) ≡ b.header.prices.s) × (selling_tariff_at 36 (bytes_of b) ≡ b.header.prices.u)
  unfolding selling_tariff_at selling_widths fields_at
  selling_written =
      by_case (selling_in b.header.version)
      (λ e. rw (header.version, e) (ap (λ (vs : List ℕ). get_or vs 0 0) (selling_fields e), ap (λ (vs : List ℕ). get_or vs 1 0) (selling_fields e)))
      (λ e. rw (header.version, e) (sym (f.selling.none e).0, sym (f.selling.none e).1))

  -- the sizes are those of the book's version
  users_size_lem : size_of_user (version_of (bytes_of b)) ≡ size_of_user b.header.version
  users_size_lem = ap size_of_user header.version

  -- ---- the records

  users_part_lem : drop (size_of_header (version_of (bytes_of b))) (bytes_of b) ≡ bytes_of_records (user_record b.header.version) b.users ++ bytes_of_records trade_bytes b.trades
  unfolding bytes_of records
  users_part_lem = drop_at (header_bytes b) records (size_of_header (version_of (bytes_of b))) (length-header b ∙ ap size_of_header (sym header.version))

  trades_part_lem : drop (trades_at (bytes_of b)) (bytes_of b) ≡ bytes_of_records trade_bytes b.trades
  unfolding trades_at place_of_user
  trades_part_lem =
      let n = length b.users in
      let H = size_of_header (version_of (bytes_of b)) in
      let users = size_of_user b.header.version * n in
      let e : drop users (drop H (bytes_of b)) ≡ drop (H + users) (bytes_of b) = drop-drop users H (bytes_of b) in
      rw (header.users, users_size_lem, ← e, users_part_lem)
      (drop_at (bytes_of_records (user_record b.header.version) b.users) (bytes_of_records trade_bytes b.trades) users (length-bytes_of_records (user_record b.header.version) (size_of_user b.header.version) (length-user_record b.header.version) b.users))

  users_written : users_of (bytes_of b) ≡ b.users
  unfolding users_of
  users_written =
      rw (header.users, users_size_lem, users_part_lem)
      (records_of-bytes_of_records (size_of_user b.header.version) user_of (user_record b.header.version) b.users (bytes_of_records trade_bytes b.trades)
      (every_map (user_back b.header.version) b.users f.users))

  trades_written : trades_of (bytes_of b) ≡ b.trades
  unfolding trades_of
  trades_written =
      rw (trades_part_lem, header.trades, ← append-nil (bytes_of_records trade_bytes b.trades))
      (records_of-bytes_of_records 20 trade_of trade_bytes b.trades [] (every_map trade_back b.trades f.trades))

  -- reading the bytes of a book whose fields fit gives that book
  pub book_of_fits : book_of (bytes_of b) ≡ b
  unfolding book_of prices_of
  book_of_fits =
      rw (selling_written.0, selling_written.1, header.version, header.date, header.p, header.q, header.l, header.x, header.i, users_written, trades_written)

  user_zeros_written : T (user_zeros_valid (bytes_of b))
  unfolding user_zeros_valid
  user_zeros_written =
      rw (header.users, users_size_lem, users_part_lem)
      (written_zeros user_zeros (size_of_user b.header.version) (user_record b.header.version) (length-user_record b.header.version) (zeros_user_record b.header.version) b.users
      (bytes_of_records trade_bytes b.trades))

  trade_zeros_written : T (trade_zeros_valid (bytes_of b))
  unfolding trade_zeros_valid
  trade_zeros_written =
      rw (header.trades, trades_part_lem, ← append-nil (bytes_of_records trade_bytes b.trades))
      (written_zeros trade_zeros 20 trade_bytes length-trade_bytes trade_zeros-trade_bytes b.trades [])

  -- the questions 4 to 7 of its bytes are those of its fields: every zero byte is written
  pub fields_written : about_fields (bytes_of b)
      ≡ record { number = 4; holds = header_is_valid b.header }
      ∷ (record { number = 5; holds = users_are_valid b.users && groups_valid b }
      ∷ (record { number = 6; holds = all (trade_is_valid b.users) b.trades }
      ∷ (record { number = 7; holds = all (positions_are_valid b.trades) b.users } ∷ [])))
  unfolding about_fields
  fields_written =
      rw
      (book_of_fits, users_written, trades_written, same_test (user_zeros_valid (bytes_of b)) true (λ t. tt) (λ t. user_zeros_written), same_test (trade_zeros_valid (bytes_of b)) true (λ t. tt) (λ t. trade_zeros_written))

module _ (b : Book) (s : Sound b) where
  -- ---- the header

  record Counted : Type 0 where
    some : 1 ≤ length b.users
    users : length b.users ≤ 64
    trades : length b.trades ≤ 256

  counted : Counted
  unfolding counts_are_valid
  counted =
      let h = s.counts in
      record {
        some = leb→le 1 (length b.users) (search (and_l, and_r));
        users = leb→le (length b.users) 64 (search (and_l, and_r));
        trades = leb→le (length b.trades) 256 (search (and_l, and_r));
      }

  date_lt : b.header.date < 2 ^ 32
  unfolding header_is_valid real_day year_of
  date_lt =
      let h = s.header in
      let y = leb→le (b.header.date / 10000) 2099 (search (and_l, and_r)) in
      omega arith

  selling_fits : FitsSelling b.header.version b.header.prices
  unfolding most_selling
  selling_fits =
      let l = selling_le b s in
      let m = selling_most_lem b.header.version in
      record { s = omega arith; u = omega arith; none = λ e. let k : most_selling b.header.version ≡ 0 = rw e in (omega arith, omega arith) }

  -- every field of an accepted book fits
  sound_fits : FitsBook b
  unfolding header_widths header_values mark version_is_valid
  sound_fits =
      let c = counted in
      let u = c.users in
      let t = c.trades in
      let f = prices-le b s in
      let v = known-lt b.header.version s.version in
      let d = date_lt in
      record {
        header = (omega arith, (omega arith, (omega arith, (omega arith, (omega arith, (omega arith, (omega arith, (omega arith, (omega arith, (omega arith, tt))))))))));
        selling = selling_fits;
        users = every_record b s;
        trades = every_trade b.users b.trades s.users s.trades;
      }

  -- reading the bytes of an accepted book gives that book
  pub book_of_bytes_of : book_of (bytes_of b) ≡ b
  book_of_bytes_of = book_of_fits b sound_fits

  -- ---- the questions

  marked_written : T (marked (bytes_of b))
  unfolding marked
  marked_written =
      let n = length_by_lem b.header.version (length b.users) (length b.trades) in
      let l = le→leb 32 (length (bytes_of b)) (omega (arith, length_bytes_of b, header_range b.header.version)) in
      and_i (leb 32 (length (bytes_of b))) (eqb (mark_of (bytes_of b)) mark) l (eqb_of (mark_of (bytes_of b)) mark (header b sound_fits).mark)

  versioned_written : T (versioned (bytes_of b))
  unfolding versioned version_is_valid
  versioned_written = rw (header b sound_fits).version s.version

  sized_written : T (sized (bytes_of b))
  unfolding sized length_of
  sized_written =
      let c = counted in
      let n = length b.users in
      let m = length b.trades in
      let l = length_by b.header.version n m in
      rw ((header b sound_fits).version, (header b sound_fits).users, (header b sound_fits).trades, length_bytes_of b)
      (and_i (leb 1 n && leb n 64) (leb m 256 && eqb l l)
      (and_i (leb 1 n) (leb n 64) (le→leb 1 n c.some) (le→leb n 64 c.users))
      (and_i (leb m 256) (eqb l l) (le→leb m 256 c.trades) (eqb_refl l)))

  users_valid_lem : T (users_are_valid b.users && groups_valid b)
  unfolding users_are_valid
  users_valid_lem =
      and_i (users_are_valid b.users) (groups_valid b) (and_i (ids_rise 0 b.users) (all user_is_valid b.users) s.ids s.users) s.groups

  -- what was written passes every question
  pub none_refuses_written : refusal (about_bytes (bytes_of b)) ≡ 0
  unfolding about_bytes about_form refusal after
  none_refuses_written =
      rw (
        yes_first 1 _ _ marked_written,
        yes_first 2 _ _ versioned_written,
        yes_first 3 _ _ sized_written,
        fields_written b sound_fits,
        yes_first 4 (header_is_valid b.header) _ s.header,
        yes_first 5 (users_are_valid b.users && groups_valid b) _ users_valid_lem,
        yes_first 6 (all (trade_is_valid b.users) b.trades) _ s.trades,
        yes_first 7 (all (positions_are_valid b.trades) b.users) _ s.positions,
      )

  pub written_number : book_number (bytes_of b) ≡ 0
  unfolding book_number
  written_number = none_refuses_written
