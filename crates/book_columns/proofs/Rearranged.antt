-- Rearranged bytes have the length, the version and the counts of the bytes, and rearranged the other way they are the bytes again. Assumes nothing.
use Rattle.base.specs.Basics.{◌≡◌, refl, sym, ap, ◌∙◌, inr, Bool, not, List, ◌++◌, ℕ, ◌+◌, ◌*◌, ◌^◌, ◌<◌, ◌≤◌, zero-add, arith, length, take, drop}
use Rattle.base.specs.Basics.{length-append, length-drop, take-append-drop, sets, sets-eq, drop_at, drop-drop, length-take-le, take_at}
use Rattle.base.proofs.Tests.{by_case}
use Rattle.rules.specs.Areas.{managers_in}
use Rattle.fields.specs.Field.{AllBytes, field, set_field, to_bytes}
use Rattle.fields.specs.Layout.{size}
use Rattle.fields.proofs.Field.{field_part, field-set_field, field-set_field_apart, length-set_field, length_to_bytes, set_field-field, all_bytes_take}
use Rattle.columns.specs.Columns.{arranged}
use Rattle.columns.proofs.Columnar.{arranged-back, length-arranged}
use Rattle.book_records.specs.User.{amount_widths, manager_widths, record_size, user_widths}
use Rattle.book_records.specs.Trade.{trade_widths}
use Rattle.book_format.specs.Book.{size_of_header, mark_of, count_of_trades, trade_size, trades_at, place_of_user, count_of_users, size_of_user, version_of}
use Rattle.book_format.proofs.Offsets.{header_range}
use Rattle.book_columns.specs.Form.{Laid, header_part, rearranged, trade_fields, trades_part, user_fields, users_part}

-- ---- the widths of a version are its sizes

pub user_fields_lem : (version : ℕ) → size (user_fields version) ≡ size_of_user version
unfolding user_fields user_widths manager_widths amount_widths size size_of_user record_size
user_fields_lem version = by_case (managers_in version) (λ e. rw e) (λ e. rw e)

pub trade_fields_lem : (version : ℕ) → size (trade_fields version) ≡ trade_size version
unfolding trade_fields trade_widths size
trade_fields_lem version = refl

-- ---- marks

-- a mark over another
mark_again : (a b : ℕ) (l : List ℕ) → 3 ≤ length l → set_field 3 0 a (set_field 3 0 b l) ≡ set_field 3 0 a l
unfolding set_field
mark_again a b l h =
    let x = to_bytes 3 a in
    let y = to_bytes 3 b in
    let lx : length x ≡ 3 = length_to_bytes 3 a in
    let ly : length y ≡ 3 = length_to_bytes 3 b in
    let e : sets l 0 y ≡ y ++ drop 3 l = sets-eq y l 0 (omega arith) ∙ rw (zero-add, ly) in
    let k : 3 ≤ length (y ++ drop 3 l) = rw length-append (omega arith) in
    ap (λ (t : List ℕ). sets t 0 x) e
    ∙ sets-eq x (y ++ drop 3 l) 0 (omega arith)
    ∙ (rw (zero-add, lx, drop_at y (drop 3 l) 3 ly) (sym (sets-eq x l 0 (omega arith) ∙ rw (zero-add, lx))))

-- a field of the front of a list
front_field : (w at k : ℕ) (t : List ℕ) → at + w ≤ k → field w at (take k t) ≡ field w at t
front_field w at k t h = field_part w at 0 k t h ∙ ap (λ (i : ℕ). field w i t) (zero-add at)

-- ---- the parts of bytes

module _ {s : List ℕ} (l : Laid s) where
  -- the trades begin behind the users
  pub trades_begin : trades_at s ≡ size_of_header (version_of s) + size_of_user (version_of s) * count_of_users s
  unfolding trades_at place_of_user
  trades_begin = refl

  length-header_part : length (header_part s) ≡ size_of_header (version_of s)
  length-header_part = length-take-le (size_of_header (version_of s)) s (omega (arith, l.whole, trades_begin))

  pub length-users_part : length (users_part s) ≡ size_of_user (version_of s) * count_of_users s
  length-users_part =
      length-take-le (size_of_user (version_of s) * count_of_users s) (drop (size_of_header (version_of s)) s) (rw length-drop (omega (arith, l.whole, trades_begin)))

  pub length-trades_part : length (trades_part s) ≡ trade_size (version_of s) * count_of_trades s
  length-trades_part = length-drop (trades_at s) s ∙ omega (arith, l.whole)

  -- they are all of the bytes
  parts_whole : header_part s ++ (users_part s ++ trades_part s) ≡ s
  parts_whole =
      let H = size_of_header (version_of s) in
      let k = size_of_user (version_of s) * count_of_users s in
      ap (λ (t : List ℕ). header_part s ++ (users_part s ++ t)) (ap (λ (i : ℕ). drop i s) trades_begin ∙ sym (drop-drop k H s))
      ∙ rw (take-append-drop, take-append-drop)

  module _ (back : Bool) (new_mark : ℕ) where
    -- what the bytes become, and its three parts
    abbrev t : List ℕ
    t = rearranged back new_mark s

    abbrev header : List ℕ
    header = set_field 3 0 new_mark (header_part s)

    abbrev users : List ℕ
    users = arranged back (user_fields (version_of s)) (count_of_users s) (users_part s)

    abbrev trades : List ℕ
    trades = arranged back (trade_fields (version_of s)) (count_of_trades s) (trades_part s)

    pub length-header : length header ≡ size_of_header (version_of s)
    length-header = length-set_field 3 0 new_mark (header_part s) ∙ length-header_part

    users_sized : length (users_part s) ≡ size (user_fields (version_of s)) * count_of_users s
    users_sized = rw user_fields_lem length-users_part

    trades_sized : length (trades_part s) ≡ size (trade_fields (version_of s)) * count_of_trades s
    trades_sized = rw trade_fields_lem length-trades_part

    pub length-users : length users ≡ size_of_user (version_of s) * count_of_users s
    length-users = length-arranged back (user_fields (version_of s)) (count_of_users s) (users_part s) users_sized ∙ (rw user_fields_lem)

    pub length-trades : length trades ≡ trade_size (version_of s) * count_of_trades s
    length-trades = length-arranged back (trade_fields (version_of s)) (count_of_trades s) (trades_part s) trades_sized ∙ (rw trade_fields_lem)

    pub length_rearranged : length t ≡ length s
    unfolding rearranged
    length_rearranged =
        rw (length-append, length-append, length-header, length-users, length-trades) (omega (arith, l.whole, trades_begin))

    -- the header with its mark
    front : take (size_of_header (version_of s)) t ≡ header
    unfolding rearranged
    front = take_at header (users ++ trades) (size_of_header (version_of s)) length-header

    -- a field of the header behind the mark
    same_field : (w at : ℕ) → 3 ≤ at → at + w ≤ 32 → field w at t ≡ field w at s
    same_field w at h k =
        let H = size_of_header (version_of s) in
        let r : at + w ≤ H = omega (arith, header_range (version_of s)) in
        sym (front_field w at H t r)
        ∙ ap (field w at) front
        ∙ field-set_field_apart 3 0 new_mark w at (header_part s) (inr h)
        ∙ front_field w at H s r

    pub same_version : version_of t ≡ version_of s
    unfolding version_of
    same_version = same_field 2 3 (omega arith) (omega arith)

    pub same_users : count_of_users t ≡ count_of_users s
    unfolding count_of_users
    same_users = same_field 1 5 (omega arith) (omega arith)

    pub same_trades : count_of_trades t ≡ count_of_trades s
    unfolding count_of_trades
    same_trades = same_field 2 6 (omega arith) (omega arith)

    pub new_mark_lem : new_mark < 256 ^ 3 → mark_of t ≡ new_mark
    unfolding mark_of
    new_mark_lem h =
        let H = size_of_header (version_of s) in
        let r : 3 ≤ H = omega (arith, header_range (version_of s)) in
        sym (front_field 3 0 H t r) ∙ ap (field 3 0) front ∙ field-set_field 3 0 new_mark (header_part s) h (omega (arith, length-header_part))

    same_begin : trades_at t ≡ trades_at s
    unfolding trades_at place_of_user
    same_begin = rw (same_version, same_users)

    pub laid_rearranged : Laid t
    laid_rearranged =
        record {
          head = rw length_rearranged l.head;
          version = rw same_version l.version;
          some = rw same_users l.some;
          users = rw same_users l.users;
          trades = rw same_trades l.trades;
          whole = rw (length_rearranged, same_begin, same_trades) l.whole;
        }

    -- ---- its parts

    header_part_lem : header_part t ≡ header
    header_part_lem = rw same_version front

    behind : drop (size_of_header (version_of s)) t ≡ users ++ trades
    unfolding rearranged
    behind = drop_at header (users ++ trades) (size_of_header (version_of s)) length-header

    users_part_lem : users_part t ≡ users
    users_part_lem =
        rw (same_version, same_users, behind) (take_at users trades (size_of_user (version_of s) * count_of_users s) length-users)

    trades_part_lem : trades_part t ≡ trades
    trades_part_lem =
        let H = size_of_header (version_of s) in
        let k = size_of_user (version_of s) * count_of_users s in
        ap (λ (i : ℕ). drop i t) (same_begin ∙ trades_begin)
        ∙ sym (drop-drop k H t)
        ∙ ap (drop k) behind
        ∙ drop_at users trades k length-users

    -- ---- the other way

    -- with its first mark again, it is the bytes
    pub rearranged-back : AllBytes s → rearranged (not back) (mark_of s) t ≡ s
    unfolding rearranged mark_of
    rearranged-back b =
        let H = size_of_header (version_of s) in
        let n : 3 ≤ length (header_part s) = omega (arith, length-header_part, header_range (version_of s)) in
        let e : set_field 3 0 (field 3 0 s) header ≡ header_part s =
        mark_again (field 3 0 s) new_mark (header_part s) n
        ∙ ap (λ (v : ℕ). set_field 3 0 v (header_part s)) (sym (front_field 3 0 H s (omega (arith, length-header_part))))
        ∙ set_field-field 3 0 (header_part s) (all_bytes_take H s b) n in
        let u : arranged (not back) (user_fields (version_of s)) (count_of_users s) users ≡ users_part s = arranged-back back (user_fields (version_of s)) (count_of_users s) (users_part s) users_sized in
        let r : arranged (not back) (trade_fields (version_of s)) (count_of_trades s) trades ≡ trades_part s = arranged-back back (trade_fields (version_of s)) (count_of_trades s) (trades_part s) trades_sized in
        rw (header_part_lem, users_part_lem, trades_part_lem, same_version, same_users, same_trades, e, u, r) parts_whole
