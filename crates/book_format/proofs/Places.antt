-- A user and a trade at their places: their bytes lie in the book, and are read as them; a field of them, and others in their place. Assumes nothing.
use Rattle.base.specs.Basics.{◌≡◌, refl, sym, ap, ◌∙◌, List, [], ◌∷◌, ℕ, zero, suc, ◌+◌, ◌-◌, ◌*◌, ◌≤◌, ◌<◌, le_of_suc-le-suc, not-suc-le-zero, arith, length}
use Rattle.base.specs.Basics.{take, drop, get_or, set, drop-drop, sets}
use borrow.Rule.Slice.PartMut.{put_mid}
use Rattle.fields.proofs.{Field.all_bytes_part, Field.field_part, Records.every_part_at, Sets.length_part, Sets.part_sets}
use Rattle.fields.specs.Field.{AllBytes, field}
use Rattle.book_format.proofs.{Held.held_trade_set, Held.held_count_of_users, Offsets.size_lies, Offsets.user_range, Passed.Passed, Passed.length-trades_of}
use Rattle.book_format.proofs.{Parts.record_at, Positions.position_bytes}
use Rattle.book_format.specs.Book.{book_of, count_of_trades, trades_at, trades_of, place_of_user, count_of_users, users_of, size_of_header, size_of_user, version_of}
use Rattle.book_format.specs.{Held.HeldAs, Held.trades_replaced, Questions.Formed, Places.HeaderIn, Places.TradeIn, Places.UserIn, Places.position_at}
use Rattle.book_records.proofs.{Trades.length-trade_bytes, Trades.trade_of_bytes, Users.length-user_bytes, Users.user_bytes_of, Users.user_of_front}
use Rattle.book_records.specs.{Trade.FitsTrade, Trade.trade_bytes, Trade.trade_of, User.alone, User.user_bytes, User.user_of, User.user_zeros}
use Rattle.rules.specs.{Book.Trade, Book.User, Book.at, Book.no_trade, Book.nobody, Signed.signed_of}

-- the front of a front
pub take_front : (k n : ℕ) (l : List ℕ) → k ≤ n → take k (take n l) ≡ take k l
take_front zero n l h = refl
take_front (suc k) zero l h = absurd (not-suc-le-zero h)
take_front (suc k) (suc n) [] h = refl
take_front (suc k) (suc n) (x ∷ l) h = ap (λ (r : List ℕ). x ∷ r) (take_front k n l (le_of_suc-le-suc h))

-- ---- the header

-- it lies in bytes of the right form
pub header_lies : {s : List ℕ} → Formed s → HeaderIn s
unfolding trades_at place_of_user
header_lies f = record { start = f.head; whole = omega (arith, f.whole) }

-- ---- a user

module _ {s : List ℕ} {place : ℕ} (p : UserIn s place) where
  -- there are at most 64 users
  pub user_low : place < 64
  user_low = omega (arith, p.form.users, p.inside)

  -- its record
  pub record_lies : place_of_user s place + size_of_user (version_of s) ≤ length s
  unfolding place_of_user trades_at
  record_lies = omega (arith, p.form.whole, size_lies (size_of_user (version_of s)) place (count_of_users s) p.inside)

  -- its 56 bytes
  pub user_lies : place_of_user s place + 56 ≤ length s
  user_lies = omega (arith, record_lies, user_range (version_of s))

  pub user_is : user_of (take (size_of_user (version_of s)) (drop (place_of_user s place) s)) ≡ get_or (users_of s) place nobody
  unfolding users_of place_of_user
  user_is = record_at (size_of_user (version_of s)) user_of (count_of_users s) place (size_of_header (version_of s)) s nobody p.inside

  -- its 56 bytes are the first of its record
  first_56 : take 56 (take (size_of_user (version_of s)) (drop (place_of_user s place) s)) ≡ take 56 (drop (place_of_user s place) s)
  first_56 = take_front 56 (size_of_user (version_of s)) (drop (place_of_user s place) s) (user_range (version_of s)).0

  -- the user is read from them, without its managers
  pub user_read : {a : ℕ} {u : User} → a ≡ place_of_user s place → u ≡ user_of (take (a + 56 - a) (drop a s)) → u ≡ alone (get_or (users_of s) place nobody)
  user_read {a} e f =
      let l : a + 56 - a ≡ 56 = omega arith in
      (rw (l, e) at f) ∙ ap user_of (sym first_56) ∙ user_of_front (take (size_of_user (version_of s)) (drop (place_of_user s place) s)) ∙ ap alone user_is

  -- a field of the user
  pub user_field : (w i : ℕ) {A : Type 0} (g : User → A) (f : ℕ → A) → i + w ≤ 56 → ((c : List ℕ) → f (field w i c) ≡ g (user_of c))
      → f (field w (place_of_user s place + i) s) ≡ g (get_or (users_of s) place nobody)
  user_field w i g f h e =
      ap f (sym (field_part w i (place_of_user s place) (size_of_user (version_of s)) s (omega (arith, h, user_range (version_of s))))) ∙ e (take (size_of_user (version_of s)) (drop (place_of_user s place) s)) ∙ ap g user_is

  -- its position in an area
  pub position_read : {area : ℕ} → area < 3 → signed_of 32 (field 4 (position_at s place area) s) ≡ at (get_or (users_of s) place nobody).position area
  unfolding position_at
  position_read {area} k =
      user_field 4 (20 + 4 * area) (λ u. at u.position area) (signed_of 32) (omega arith) (λ c. sym (position_bytes c area k))

  -- its bytes are those that it was read from
  pub user_part_lem : AllBytes s → Passed s → user_bytes (get_or (users_of s) place nobody) ≡ take 56 (drop (place_of_user s place) s)
  unfolding user_zeros place_of_user
  user_part_lem b q =
      let H = size_of_header (version_of s) in
      let W = size_of_user (version_of s) in
      let a = H + W * place in
      let zeros = every_part_at (λ c. user_zeros c ≡ 0) W (count_of_users s) (drop H s) place q.user_zeros_lem p.inside in
      ap user_bytes (sym user_is)
      ∙ user_bytes_of (take W (drop a s)) (omega (arith, length_part s a W record_lies, user_range (version_of s))) (all_bytes_part a W s b)
      (ap (λ (x : List ℕ). user_zeros (take W x)) (sym (drop-drop (W * place) H s)) ∙ zeros)
      ∙ first_56

  -- another user's bytes in their place
  pub user_put : {a : ℕ} {part : List ℕ} (u : User) → a ≡ place_of_user s place → part ≡ user_bytes u → put_mid a (a + 56 - a) s part ≡ sets s (place_of_user s place) (user_bytes u)
  user_put {a} u e f =
      let l : a + 56 - a ≡ 56 = omega arith in
      rw (l, f, e) (part_sets s (user_bytes u) (place_of_user s place) 56 (length-user_bytes u) user_lies)

-- ---- a trade

module _ {s : List ℕ} {at place : ℕ} (p : TradeIn s at place) where
  -- its bytes
  pub trade_lies : at + 20 * place + 20 ≤ length s
  trade_lies = omega (arith, p.form.whole, p.begin, p.inside)

  -- the trade is read from them
  pub trade_read : {a : ℕ} {t : Trade} → a ≡ at + 20 * place → t ≡ trade_of (take (a + 20 - a) (drop a s)) → t ≡ get_or (trades_of s) place no_trade
  unfolding trades_of
  trade_read {a} e f =
      let l : a + 20 - a ≡ 20 = omega arith in
      let b : a ≡ trades_at s + 20 * place = omega (arith, p.begin) in
      (rw (l, b) at f) ∙ record_at 20 trade_of (count_of_trades s) place (trades_at s) s no_trade p.inside

  -- another trade's bytes in their place
  pub trade_put : HeldAs (book_of s) s → {a : ℕ} {part : List ℕ} (t : Trade) → a ≡ at + 20 * place → FitsTrade t → part ≡ trade_bytes t
      → HeldAs (trades_replaced (book_of s) (set (trades_of s) place t)) (put_mid a (a + 20 - a) s part)
  unfolding book_of trades_at place_of_user
  trade_put h {a} t e fits f =
      let m : a ≡ size_of_header (version_of s) + size_of_user (version_of s) * length (users_of s) + 20 * place = rw (held_count_of_users h) (omega (arith, p.begin)) in
      let l : a + 20 - a ≡ 20 = omega arith in
      rw (l, f, part_sets s (trade_bytes t) a 20 (length-trade_bytes t) (omega (arith, trade_lies)), m)
      (held_trade_set h place t (omega (arith, length-trades_of s, p.inside)) (trade_of_bytes t fits))
