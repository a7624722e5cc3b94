-- A book held in bytes: accepted bytes hold theirs; its records are read where they stand; with one record set, or a part of it, the bytes hold the book with that record. Assumes nothing.
use Rattle.base.specs.Basics.{◌≡◌, refl, sym, ap, ap₂, subst, ◌∙◌, cond, List, [], ◌++◌, append_assoc, append-nil, ℕ, ◌+◌, ◌*◌, ◌<◌, ◌≤◌, zero-add, arith, T}
use Rattle.base.specs.Basics.{length, take, drop, get_or, set, length-append, length-set, sets}
use Rattle.fields.proofs.Field.{all_bytes_part, field_part}
use Rattle.fields.proofs.{Records.length-bytes_of_records, Sets.drop-sets, Sets.drop-sets-add, Sets.length_part, Sets.sets_left, Sets.sets_whole, Sets.take-sets}
use Rattle.fields.specs.{Field.AllBytes, Field.field, Layout.bytes_of_records}
use Rattle.book_format.proofs.Offsets.{header_range, header_selling, length-user_record, same_begin, size_lies, user_range}
use Rattle.book_format.proofs.Passed.{length-trades_of, length-users_of, passed}
use Rattle.book_format.proofs.{Round.bytes_of_book_of, Written.all_bytes_bytes_of, Written.formed_bytes_of, Written.length-header}
use Rattle.book_format.proofs.{Fits.managers_at_fit, Fits.user_of_fits, Parts.record_at, Parts.records_before, Parts.records_part, Parts.records_set}
use Rattle.book_format.specs.Book.{book_of, bytes_of, header_bytes, size_of_header, header_values, prices_of, selling_tariff_at, count_of_trades, trades_at, trades_of, place_of_user}
use Rattle.book_format.specs.Book.{count_of_users, user_record, size_of_user, users_of, version_of}
use Rattle.book_format.specs.{Questions.Formed, Questions.book_number, Held.Accepted, Held.HeldAs, Held.trades_replaced}
use Rattle.book_records.proofs.{Trades.length-trade_bytes, Users.length-user_bytes, Users.user_of_record}
use Rattle.book_records.specs.Trade.{trade_bytes, trade_of}
use Rattle.book_records.specs.User.{FitsManagers, FitsRecord, FitsUser, manager_bytes, record_bytes, user_bytes, user_of}
use Rattle.base.proofs.Tests.{by_case}
use Rattle.rules.specs.Areas.{managers_in, selling_in}
use Rattle.rules.specs.{Book.Book, Book.Header, Book.Managers, Book.Trade, Book.User, Changes.with_users, Questions.ids_rise, Questions.trade_is_valid}
use Rattle.base.specs.Lists.{all}

-- accepted bytes hold their book
pub held_accepted : (s : List ℕ) → AllBytes s → book_number s ≡ 0 → HeldAs (book_of s) s
held_accepted s b h = record { book = refl; bytes = sym (bytes_of_book_of s b (passed s h)); form = (passed s h).form }

pub accepted_of : (s : List ℕ) → AllBytes s → book_number s ≡ 0 → Accepted s
accepted_of s b h = record { held = held_accepted s b h; sound = (passed s h).sound }

module _ {s : List ℕ} (a : Accepted s) where
  -- its ids rise, and each trade is valid
  pub accepted_ids : T (ids_rise 0 (users_of s))
  unfolding book_of
  accepted_ids = a.sound.ids

  pub accepted_trades : T (all (trade_is_valid (users_of s)) (trades_of s))
  unfolding book_of
  accepted_trades = a.sound.trades

-- a book that is held is held as what is read
pub held_itself : {b : Book} {s : List ℕ} → HeldAs b s → HeldAs (book_of s) s
held_itself {b} {s} h = subst (λ (c : Book). HeldAs c s) (sym h.book) h

-- ---- the header

module _ (s t : List ℕ) (e : take (size_of_header (version_of s)) t ≡ take (size_of_header (version_of s)) s) where
  -- a field of the header
  same_field : (w i : ℕ) → i + w ≤ size_of_header (version_of s) → field w i t ≡ field w i s
  same_field w i h =
      let n = size_of_header (version_of s) in
      let at_start : (l : List ℕ) → field w i (take n l) ≡ field w i l = λ l. rw zero-add at (field_part w i 0 n l h) in
      sym (at_start t) ∙ ap (field w i) e ∙ at_start s

  -- one that every version has
  same_start : (w i : ℕ) → i + w ≤ 32 → field w i t ≡ field w i s
  same_start w i h = same_field w i (omega (arith, header_range (version_of s)))

  -- the version, both counts and the header
  same_version : version_of t ≡ version_of s
  unfolding version_of
  same_version = same_start 2 3 (omega arith)

  same_count_of_users : count_of_users t ≡ count_of_users s
  unfolding count_of_users
  same_count_of_users = same_start 1 5 (omega arith)

  same_count_of_trades : count_of_trades t ≡ count_of_trades s
  unfolding count_of_trades
  same_count_of_trades = same_start 2 6 (omega arith)

  same_selling : (i : ℕ) → i + 4 ≤ 40 → selling_tariff_at i t ≡ selling_tariff_at i s
  unfolding selling_tariff_at
  same_selling i h =
      by_case (selling_in (version_of s)) (λ c. rw (same_version, c) (same_field 4 i (omega (arith, header_selling (version_of s) c)))) (λ c. rw (same_version, c))

  same_header : (book_of t).header ≡ (book_of s).header
  unfolding book_of prices_of
  same_header =
      rw (same_selling 32 (omega arith), same_selling 36 (omega arith), same_version, same_start 4 8 (omega arith), same_start 4 12 (omega arith), same_start 4 16 (omega arith), same_start 4 20 (omega arith), same_start 4 24 (omega arith), same_start 4 28 (omega arith))

-- a part of the 56 bytes of a record is set, and the managers stay
pub record_part : (version : ℕ) (u x : User) → u.party.managers ≡ x.party.managers → (j : ℕ) (vs : List ℕ) → j + length vs ≤ 56 → user_bytes u ≡ sets (user_bytes x) j vs
    → user_record version u ≡ sets (user_record version x) j vs
unfolding user_record record_bytes
record_part version u x kept j vs l e =
    ap₂ (λ (c : List ℕ) (ms : Managers). c ++ cond (managers_in version) (manager_bytes ms) []) e kept
    ∙ sym (sets_left vs (user_bytes x) (cond (managers_in version) (manager_bytes x.party.managers) []) j (omega (arith, l, length-user_bytes x)))

-- a book by its three parts
book_of_lem : (t : List ℕ) (c : Book) → (book_of t).header ≡ c.header → users_of t ≡ c.users → trades_of t ≡ c.trades → book_of t ≡ c
unfolding book_of
book_of_lem t c h u r =
    ap (λ (x : Header). record { header = x; users = users_of t; trades = trades_of t }) h
    ∙ ap₂ (λ (us : List User) (ts : List Trade). record { header = c.header; users = us; trades = ts }) u r

module _ {b : Book} {s : List ℕ} (h : HeldAs b s) where
  -- ---- what is read

  -- users, trades and their numbers
  pub held_users : users_of s ≡ b.users
  unfolding book_of
  held_users = ap (λ (x : Book). x.users) h.book

  pub held_trades : trades_of s ≡ b.trades
  unfolding book_of
  held_trades = ap (λ (x : Book). x.trades) h.book

  pub held_count_of_users : length b.users ≡ count_of_users s
  held_count_of_users = ap length (sym held_users) ∙ length-users_of s

  pub held_count_of_trades : length b.trades ≡ count_of_trades s
  held_count_of_trades = ap length (sym held_trades) ∙ length-trades_of s

  -- the version
  held_version : version_of s ≡ b.header.version
  unfolding book_of
  held_version = ap (λ (x : Book). x.header.version) h.book

  -- the header's bytes
  held_header : length (header_bytes b) ≡ size_of_header (version_of s)
  held_header = length-header b ∙ ap size_of_header (sym held_version)

  -- every element is a byte
  pub held_bytes : AllBytes s
  held_bytes = subst AllBytes (sym h.bytes) (all_bytes_bytes_of b)

  -- the size of a user's record
  held_size : size_of_user b.header.version ≡ size_of_user (version_of s)
  held_size = ap size_of_user (sym held_version)

  -- the user at a place stands in its record
  held_user : (i : ℕ) (d : User) → i < length b.users → user_of (take (size_of_user (version_of s)) (drop (size_of_header (version_of s) + size_of_user (version_of s) * i) s)) ≡ get_or b.users i d
  unfolding users_of
  held_user i d k =
      record_at (size_of_user (version_of s)) user_of (count_of_users s) i (size_of_header (version_of s)) s d (omega (arith, held_count_of_users)) ∙ ap (λ (us : List User). get_or us i d) held_users

  -- and fits it
  pub held_user_fits : (i : ℕ) (d : User) → i < length b.users → FitsRecord (managers_in b.header.version) (get_or b.users i d)
  unfolding trades_at place_of_user size_of_user
  held_user_fits i d k =
      let W = size_of_user (version_of s) in
      let a = size_of_header (version_of s) + W * i in
      let bytes = all_bytes_part a W s held_bytes in
      let lies = size_lies W i (count_of_users s) (omega (arith, held_count_of_users)) in
      record {
        user = subst FitsUser (held_user i d k) (user_of_fits _ bytes);
        managers = subst (λ (u : User). FitsManagers (managers_in b.header.version) u.party.managers) (held_user i d k)
            (subst (λ (v : ℕ). FitsManagers (managers_in v) (user_of (take W (drop a s))).party.managers) held_version (managers_at_fit (managers_in (version_of s)) (take W (drop a s)) (length_part s a W (omega (arith, h.form.whole))) bytes));
      }

  -- ---- what is set

  -- bytes with the same header hold a book as large, where they are its bytes and its records are read from them
  held_changed : (c : Book) (t : List ℕ) → take (size_of_header (version_of s)) t ≡ take (size_of_header (version_of s)) s → c.header ≡ b.header → length c.users ≡ length b.users → length c.trades ≡ length b.trades
      → t ≡ bytes_of c → users_of t ≡ c.users → trades_of t ≡ c.trades → HeldAs c t
  unfolding book_of
  held_changed c t e same users trades bytes u r =
      let f = h.form in
      let g : (book_of s).header ≡ c.header = ap (λ (x : Book). x.header) h.book ∙ sym same in
      record {
        book = book_of_lem t c (same_header s t e ∙ g) u r;
        bytes = bytes;
        form = subst Formed (sym bytes) (formed_bytes_of c (rw (version g) f.version) (omega (arith, held_count_of_users, f.some)) (omega (arith, held_count_of_users, f.users)) (omega (arith, held_count_of_trades, f.trades)));
      }
    where
      version : (book_of s).header ≡ c.header → c.header.version ≡ version_of s
      version g = ap (λ (x : Header). x.version) (sym g)

  -- a part of a user's record is set: the bytes of the book with the user that has these
  user_bytes_lem : (i j a : ℕ) (u d : User) (vs : List ℕ) → i < length b.users → a ≡ size_of_header (version_of s) + size_of_user (version_of s) * i + j → j + length vs ≤ size_of_user (version_of s)
      → user_record b.header.version u ≡ sets (user_record b.header.version (get_or b.users i d)) j vs → sets s a vs ≡ bytes_of (with_users b (set b.users i u))
  unfolding bytes_of header_bytes with_users header_values
  user_bytes_lem i j a u d vs k at l e =
      let H = header_bytes b in
      let R = user_record b.header.version in
      let W = size_of_user b.header.version in
      let U = bytes_of_records R b.users in
      let T = bytes_of_records trade_bytes b.trades in
      let n : a ≡ length H + (W * i + j) = rw held_size (omega (arith, held_header)) in
      rw length-set
      (ap (λ (x : List ℕ). sets x a vs) h.bytes
      ∙ ap (λ (x : ℕ). sets (H ++ (U ++ T)) x vs) n
      ∙ sym (records_part R W (length-user_record b.header.version) H T b.users i j u d vs k (omega (arith, held_size)) e))

  -- the same for a trade
  trade_bytes_lem : (i j a : ℕ) (t d : Trade) (vs : List ℕ) → i < length b.trades → a ≡ size_of_header (version_of s) + size_of_user (version_of s) * length b.users + 20 * i + j → j + length vs ≤ 20
      → trade_bytes t ≡ sets (trade_bytes (get_or b.trades i d)) j vs → sets s a vs ≡ bytes_of (trades_replaced b (set b.trades i t))
  unfolding bytes_of header_bytes trades_replaced header_values
  trade_bytes_lem i j a t d vs k at l e =
      let H = header_bytes b in
      let U = bytes_of_records (user_record b.header.version) b.users in
      let T = bytes_of_records trade_bytes b.trades in
      let users : length U ≡ size_of_user (version_of s) * length b.users = length-bytes_of_records (user_record b.header.version) (size_of_user b.header.version) (length-user_record b.header.version) b.users ∙ ap (λ (w : ℕ). w * length b.users) held_size in
      let n : a ≡ length (H ++ U) + (20 * i + j) = rw length-append (omega (arith, held_header, users)) in
      let apart : (x : List ℕ) → H ++ (U ++ x) ≡ (H ++ U) ++ (x ++ []) = λ x. rw (append-nil x, append_assoc H U x) in
      rw length-set
      (ap (λ (x : List ℕ). sets x a vs) (h.bytes ∙ apart T)
      ∙ ap (λ (x : ℕ). sets ((H ++ U) ++ (T ++ [])) x vs) n
      ∙ sym (records_part trade_bytes 20 length-trade_bytes (H ++ U) [] b.trades i j t d vs k l e)
      ∙ sym (apart (bytes_of_records trade_bytes (set b.trades i t))))

  -- ---- a user, or a part of one, is set

  module _ (i : ℕ) (u d : User) (k : i < length b.users) (fits : FitsUser u) (kept : u.party.managers ≡ (get_or b.users i d).party.managers) where
    -- it is read as it is written
    user_back : user_of (user_record b.header.version u) ≡ u
    unfolding user_record
    user_back =
        user_of_record (managers_in b.header.version) u fits (subst (FitsManagers (managers_in b.header.version)) (sym kept) (held_user_fits i d k).managers)

    -- the bytes with the user's record set
    with_user : List ℕ
    with_user = sets s (size_of_header (version_of s) + size_of_user (version_of s) * i) (user_record b.header.version u)

    user_front : take (size_of_header (version_of s)) with_user ≡ take (size_of_header (version_of s)) s
    unfolding with_user
    user_front = take-sets (user_record b.header.version u) s (size_of_header (version_of s) + size_of_user (version_of s) * i) (size_of_header (version_of s)) (omega arith)

    -- that user is read anew, and the trades stay
    user_users : users_of with_user ≡ set b.users i u
    unfolding users_of with_user trades_at place_of_user
    user_users =
        rw (same_version s with_user user_front, same_count_of_users s with_user user_front)
        (records_set (size_of_user (version_of s)) user_of (count_of_users s) i (size_of_header (version_of s)) s (user_record b.header.version u) (omega (arith, held_count_of_users)) (omega (arith, h.form.whole))
        (length-user_record b.header.version u ∙ held_size)
        ∙ ap₂ (λ (us : List User) (x : User). set us i x) held_users user_back)

    user_trades : trades_of with_user ≡ b.trades
    unfolding trades_of trades_at place_of_user with_user
    user_trades =
        let H = size_of_header (version_of s) in
        let W = size_of_user (version_of s) in
        rw (
          same_version s with_user user_front,
          same_count_of_trades s with_user user_front,
          same_count_of_users s with_user user_front,
          drop-sets (user_record b.header.version u) s (H + W * i) (H + W * count_of_users s) (omega (arith, size_lies W i (count_of_users s) (omega (arith, held_count_of_users)), length-user_record b.header.version u, held_size)),
        )
        held_trades

    -- one user is set
    user_set : HeldAs (with_users b (set b.users i u)) with_user
    unfolding with_users with_user
    user_set =
        let R = user_record b.header.version in
        let x = get_or b.users i u in
        let whole : R u ≡ sets (R x) 0 (R u) = sym (sets_whole (R u) (R x) (length-user_record b.header.version x ∙ sym (length-user_record b.header.version u))) in
        held_changed (with_users b (set b.users i u)) with_user user_front refl (length-set b.users i u) refl
        (user_bytes_lem i 0 (size_of_header (version_of s) + size_of_user (version_of s) * i) u u (R u) k (omega arith) (omega (arith, length-user_record b.header.version u, held_size)) whole) user_users user_trades

    -- a part of one user's 56 bytes is set
    pub held_user_part : (j a : ℕ) (vs : List ℕ) → a ≡ place_of_user s i + j → j + length vs ≤ 56 → user_bytes u ≡ sets (user_bytes (get_or b.users i d)) j vs
        → HeldAs (with_users b (set b.users i u)) (sets s a vs)
    unfolding place_of_user
    held_user_part j a vs at l e =
        subst (HeldAs (with_users b (set b.users i u)))
        (user_set.bytes ∙ sym (user_bytes_lem i j a u d vs k at (omega (arith, l, user_range (version_of s))) (record_part b.header.version u (get_or b.users i d) kept j vs l e))) user_set

  -- ---- a trade, or a part of one, is set

  module _ (i : ℕ) (r : Trade) (k : i < length b.trades) (f : trade_of (trade_bytes r) ≡ r) where
    -- the bytes with the trade's record set
    with_trade : List ℕ
    with_trade = sets s (size_of_header (version_of s) + size_of_user (version_of s) * length b.users + 20 * i) (trade_bytes r)

    trade_front : take (size_of_header (version_of s)) with_trade ≡ take (size_of_header (version_of s)) s
    unfolding with_trade
    trade_front = take-sets (trade_bytes r) s (size_of_header (version_of s) + size_of_user (version_of s) * length b.users + 20 * i) (size_of_header (version_of s)) (omega arith)

    -- the users stay, and that trade is read anew
    trade_users : users_of with_trade ≡ b.users
    unfolding users_of with_trade
    trade_users =
        let H = size_of_header (version_of s) in
        let W = size_of_user (version_of s) in
        let n : H + W * length b.users + 20 * i ≡ H + (W * count_of_users s + 20 * i) = rw held_count_of_users (omega arith) in
        rw (same_version s with_trade trade_front, same_count_of_users s with_trade trade_front, n, drop-sets-add, records_before W user_of (count_of_users s) (20 * i) (drop H s) (trade_bytes r)) held_users

    trade_trades : trades_of with_trade ≡ set b.trades i r
    unfolding trades_of trades_at place_of_user with_trade
    trade_trades =
        rw (same_version s with_trade trade_front, same_count_of_trades s with_trade trade_front, same_count_of_users s with_trade trade_front, held_count_of_users)
        (records_set 20 trade_of (count_of_trades s) i (size_of_header (version_of s) + size_of_user (version_of s) * count_of_users s) s (trade_bytes r) (omega (arith, held_count_of_trades)) (omega (arith, h.form.whole)) (length-trade_bytes r)
        ∙ ap₂ (λ (ts : List Trade) (x : Trade). set ts i x) held_trades f)

    -- one trade is set
    pub held_trade_set : HeldAs (trades_replaced b (set b.trades i r)) (sets s (size_of_header (version_of s) + size_of_user (version_of s) * length b.users + 20 * i) (trade_bytes r))
    unfolding trades_replaced with_trade
    held_trade_set =
        let x = get_or b.trades i r in
        let whole : trade_bytes r ≡ sets (trade_bytes x) 0 (trade_bytes r) = sym (sets_whole (trade_bytes r) (trade_bytes x) (length-trade_bytes x ∙ sym (length-trade_bytes r))) in
        held_changed (trades_replaced b (set b.trades i r)) with_trade trade_front refl refl (length-set b.trades i r)
        (trade_bytes_lem i 0 (size_of_header (version_of s) + size_of_user (version_of s) * length b.users + 20 * i) r r (trade_bytes r) k (omega arith) (omega (arith, length-trade_bytes r)) whole) trade_users trade_trades

-- the trades of two books of one version, with as many users, begin at one offset
pub held_begin : {b c : Book} {s t : List ℕ} → HeldAs b s → HeldAs c t → b.header.version ≡ c.header.version → length b.users ≡ length c.users → trades_at s ≡ trades_at t
held_begin {s = s} {t = t} h k v n = same_begin s t (held_version h ∙ v ∙ sym (held_version k)) (sym (held_count_of_users h) ∙ n ∙ held_count_of_users k)
