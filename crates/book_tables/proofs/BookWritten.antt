-- Laws of a book whose parts are written one after the other. Assumes nothing.
use Rattle.base.specs.Basics.{◌≡◌, refl, sym, ap, ap₂, ◌∙◌, true, false, List, [], ◌∷◌, ◌++◌, map, map-map, ℕ, zero, suc, ◌+◌, ◌*◌, ◌≤◌, arith, eqb}
use Rattle.base.specs.Basics.{length, take, drop, length-take, sets}
use Rattle.base.proofs.Fronts.{front_length}
use Rattle.fields.specs.Layout.{set_fields, bytes_of_records, pack, records_of}
use Rattle.rules.specs.Book as model
use Rattle.book_tables.specs.declared.Record.{Record}
use Rattle.book_records.specs.declared.Trade.{Trade}
use Rattle.book_records.specs.declared.User.{User}
use Rattle.book_records.proofs.Users.{managers_past}
use Rattle.book_records.specs.User.{as_user, record_bytes, record_size, user_bytes, user_of, user_values}
use Rattle.book_tables.specs.Record.{as_record, SizeOfRecord}
use Rattle.book_records.specs.Trade.{trade_bytes, as_trade}
use Rattle.base.proofs.Tests.{by_case}
use Rattle.rules.specs.Areas.{Prices, managers_in, selling_in}
use Rattle.units.specs.Prices.{as_prices}
use Rattle.book_format.specs.Book.{mark, bytes_of, size_of_header, length_by, prices_of, selling_tariff_at, selling_bytes, selling_widths, count_of_users, user_record, size_of_user, users_of, version_of}
use Rattle.book_format.proofs.Offsets.{selling_none, selling_some, user_managed, user_plain}
use Rattle.book_format.proofs.Written.{header_written, parts_written}
use Rattle.book_tables.specs.declared.Book.{Book}
use Rattle.book_tables.specs.Book.{as_book, kept_managers, kept_prices, users_in, with_records, with_selling, Unseen}

-- the bytes of structs are those of what they are in the rules
bytes_of_records-map : {R M : Type 0} (face : R → M) (bytes : M → List ℕ) (rs : List R) → bytes_of_records (λ r. bytes (face r)) rs ≡ bytes_of_records bytes (map face rs)
unfolding bytes_of_records
bytes_of_records-map face bytes [] = refl
bytes_of_records-map face bytes (r ∷ rs) = ap (λ (l : List ℕ). bytes (face r) ++ l) (bytes_of_records-map face bytes rs)

-- a version with selling tariffs keeps both
kept_some : (version : ℕ) (f : Prices) → selling_in version ≡ true → pack selling_widths ((kept_prices version f).s ∷ (kept_prices version f).u ∷ []) ≡ pack selling_widths (f.s ∷ f.u ∷ [])
unfolding kept_prices
kept_some version f e = rw e

-- the prices that a version keeps have the bytes of all
kept_selling : (version : ℕ) (f : Prices) → selling_bytes version (kept_prices version f) ≡ selling_bytes version f
kept_selling version f =
    by_case (selling_in version)
    (λ e. selling_some version (kept_prices version f) e ∙ kept_some version f e ∙ sym (selling_some version f e))
    (λ e. selling_none version (kept_prices version f) e ∙ sym (selling_none version f e))

-- of a version's own prices it keeps all
pub kept_read : (s : List ℕ) → kept_prices (version_of s) (prices_of s) ≡ prices_of s
unfolding kept_prices prices_of selling_tariff_at
kept_read s = by_case (selling_in (version_of s)) (λ e. rw e) (λ e. rw e)

-- the managers that a version keeps have the bytes of all
kept_bytes : (version : ℕ) (u : model.User) → record_bytes (managers_in version) u ≡ user_record version (kept_managers version u)
unfolding user_record record_bytes kept_managers user_bytes user_values
kept_bytes version u = by_case (managers_in version) (λ e. rw e) (λ e. rw e)

kept_records : (version : ℕ) (us : List Record) → bytes_of_records (λ (u : Record). record_bytes (managers_in version) (as_record u)) us ≡ bytes_of_records (user_record version) (map (λ u. kept_managers version (as_record u)) us)
unfolding bytes_of_records
kept_records version [] = refl
kept_records version (u ∷ us) = ap₂ (λ (x y : List ℕ). x ++ y) (kept_bytes version (as_record u)) (kept_records version us)

kept_user : (version : ℕ) (c : List ℕ) → length c ≤ size_of_user version → kept_managers version (user_of c) ≡ user_of c
unfolding kept_managers user_of
kept_user version c l =
    by_case (managers_in version)
    (λ e. rw e)
    (λ e. rw (e, managers_past c (omega (arith, l, user_plain version e))))

-- of a version's own managers it keeps all
pub kept_users : (version n : ℕ) (s : List ℕ) → map (kept_managers version) (records_of (size_of_user version) user_of n s) ≡ records_of (size_of_user version) user_of n s
unfolding records_of
kept_users version zero s = refl
kept_users version (suc n) s = ap₂ (λ (u : model.User) (us : List model.User). u ∷ us) (kept_user version (take (size_of_user version) s) (rw length-take (omega arith))) (kept_users version n (drop (size_of_user version) s))

-- the users of a book that was read
pub users_read : (s : List ℕ) (us : List Record) {version at size n : ℕ} → version ≡ version_of s → at ≡ size_of_header (version_of s) → size ≡ size_of_user (version_of s) → n ≡ count_of_users s
    → map as_record (take n us) ≡ records_of size user_of n (drop at s) → map (λ u. kept_managers version (as_record u)) (take n us) ≡ users_of s
unfolding users_of
users_read s us {version} {at} {size} {n} v begin sized count e =
    sym (map-map (kept_managers version) as_record (take n us))
    ∙ ap (map (kept_managers version)) e
    ∙ rw (v, begin, sized, count) (kept_users (version_of s) (count_of_users s) (drop (size_of_header (version_of s)) s))

-- the size of a version's records says whether it has managers
pub managed_is : (version : ℕ) {size : ℕ} → size ≡ size_of_user version → eqb size 68 ≡ managers_in version
managed_is version e =
    by_case (managers_in version)
    (λ k. rw (e, user_managed version k, k) refl)
    (λ k. rw (e, user_plain version k, k) refl)

pub size_of : (version : ℕ) {size : ℕ} → size ≡ size_of_user version → SizeOfRecord size
unfolding size_of_user
size_of version e = record { size_is = e ∙ ap record_size (sym (managed_is version e)) }

module _ (b : Book) where
  -- the bytes of the users and of the trades
  abbrev pub user_part : List ℕ
  user_part = bytes_of_records (λ (u : Record). record_bytes (managers_in b.version) (as_record u)) (take b.user_count b.users)

  abbrev pub trade_part : List ℕ
  trade_part = bytes_of_records (λ (t : Trade). trade_bytes (as_trade t)) (take b.trade_count b.trades)

  -- the fields of the header, up to the date, from the prices on, and the selling tariffs
  abbrev pub header : List ℕ → List ℕ
  header out =
      sets (set_fields (4 ∷ 4 ∷ 4 ∷ 4 ∷ 4 ∷ []) 12 (b.prices.p ∷ b.prices.q ∷ b.prices.l ∷ b.prices.x ∷ b.prices.i ∷ []) (set_fields (3 ∷ 2 ∷ 1 ∷ 2 ∷ 4 ∷ []) 0 (mark ∷ b.version ∷ b.user_count ∷ b.trade_count ∷ b.date ∷ []) out)) 32 (selling_bytes b.version (as_prices b.prices))

  -- header, users and trades, over bytes of the book's length
  pub book_written : b.user_count ≤ length b.users → b.trade_count ≤ length b.trades → (out : List ℕ) {at size : ℕ} → at ≡ size_of_header b.version → size ≡ size_of_user b.version
      → length out ≡ length_by b.version b.user_count b.trade_count
      → sets (sets (header out) at user_part) (at + size * b.user_count) trade_part ≡ bytes_of (as_book b)
  unfolding as_book kept_prices
  book_written users trades out {at} {size} e sized h =
      let us = take b.user_count b.users in
      let ts = take b.trade_count b.trades in
      let kept : Record → model.User = λ u. kept_managers b.version (as_record u) in
      let n = front_length kept b.user_count b.users users in
      let m = front_length as_trade b.trade_count b.trades trades in
      rw (sized, kept_records b.version us, bytes_of_records-map as_trade trade_bytes ts, ← kept_selling b.version (as_prices b.prices))
      (rw (n, m) at (rw (← header_written (as_book b) out) at (parts_written (as_book b) out e (rw (n, m) h))))

-- a version without managers looks at none
unmanaged_is : (version : ℕ) (r : Record) → managers_in version ≡ false → kept_managers version (as_record r) ≡ as_user r.user
unfolding kept_managers as_record as_user
unmanaged_is version r e = rw e

unmanaged_users : (version n : ℕ) (us : List Record) → managers_in version ≡ false → map (λ r. kept_managers version (as_record r)) (take n us) ≡ map as_user (take n (users_in us))
unfolding users_in
unmanaged_users version zero us e = refl
unmanaged_users version (suc n) [] e = refl
unmanaged_users version (suc n) (u ∷ us) e = ap₂ (λ (x : model.User) (y : List model.User). x ∷ y) (unmanaged_is version u e) (unmanaged_users version n us e)

other_managers : (b : Book) (us : List Record) → managers_in b.version ≡ false → users_in us ≡ users_in b.users → as_book (with_records b us) ≡ as_book b
unfolding as_book with_records
other_managers b us e same =
    let v = b.version in
    let n = b.user_count in
    let users : map (λ r. kept_managers v (as_record r)) (take n us) ≡ map (λ r. kept_managers v (as_record r)) (take n b.users) = unmanaged_users v n us e ∙ ap (λ (vs : List User). map as_user (take n vs)) same ∙ sym (unmanaged_users v n b.users e) in
    ap (λ (vs : List model.User). record { header = (as_book b).header; users = vs; trades = (as_book b).trades }) users

-- nor one without selling tariffs at those
pub unseen : Unseen
unfolding as_book kept_prices with_selling selling_in
unseen = record { same = λ b s u e. rw e refl; unmanaged = other_managers }
