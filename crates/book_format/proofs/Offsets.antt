-- Where the users and the trades of a book in bytes begin, and what is read from there. Assumes nothing.
use Rattle.base.specs.Basics.{◌≡◌, refl, ap, ◌∙◌, true, false, ◌||◌, List, [], ◌∷◌, ℕ, ◌+◌, ◌*◌, ◌^◌, ◌<◌, ◌≤◌, add-one, mul-le-mul, mul-le-mul_left, mul-suc}
use Rattle.base.specs.Basics.{arith, T, eqb, eqb→eq, length, drop, eqb-true}
use Rattle.base.proofs.Tests.{by_case, fails, or_second}
use Rattle.fields.specs.Layout.{pack, records_of}
use Rattle.book_format.specs.Book.{size_of_header, length_by, selling_bytes, selling_widths, count_of_trades, trades_at, trades_of, place_of_user, count_of_users, user_record}
use Rattle.book_format.specs.Book.{size_of_user, users_of, version_of}
use Rattle.book_records.specs.{Trade.trade_of, User.record_size, User.user_of, User.user_zeros}
use Rattle.book_records.proofs.Users.{length-record_bytes, user_zeros-record_bytes}
use Rattle.rules.specs.{Areas.Prices, Areas.managers_in, Areas.selling_in, Book.User, Questions.version_known}

-- a version that is known fits its two bytes
pub known-lt : (version : ℕ) → T (version_known version) → version < 2 ^ 16
unfolding version_known
known-lt version h =
    by_case (eqb version 1) (λ e. omega (arith, eqb-true version 1 e))
    (λ e.
    let k = or_second (eqb version 1) (eqb version 2 || eqb version 3) (fails e) h in
    by_case (eqb version 2) (λ g. omega (arith, eqb-true version 2 g)) (λ g. omega (arith, eqb→eq version 3 (or_second (eqb version 2) (eqb version 3) (fails g) k))))

-- a header has 32 bytes, and 40 in a version with selling tariffs
pub header_plain : (version : ℕ) → selling_in version ≡ false → size_of_header version ≡ 32
unfolding size_of_header
header_plain version e = rw e

pub header_selling : (version : ℕ) → selling_in version ≡ true → size_of_header version ≡ 40
unfolding size_of_header
header_selling version e = rw e

pub header_range : (version : ℕ) → (32 ≤ size_of_header version) × (size_of_header version ≤ 40)
header_range version =
    by_case (selling_in version) (λ e. rw (header_selling version e) (omega arith, omega arith)) (λ e. rw (header_plain version e) (omega arith, omega arith))

-- the bytes of selling tariffs
pub selling_some : (version : ℕ) (f : Prices) → selling_in version ≡ true → selling_bytes version f ≡ pack selling_widths (f.s ∷ f.u ∷ [])
unfolding selling_bytes
selling_some version f e = rw e

pub selling_none : (version : ℕ) (f : Prices) → selling_in version ≡ false → selling_bytes version f ≡ []
unfolding selling_bytes
selling_none version f e = rw e

-- a user's record has 56 bytes, and 68 in a version with managers
pub user_plain : (version : ℕ) → managers_in version ≡ false → size_of_user version ≡ 56
unfolding size_of_user record_size
user_plain version e = rw e

pub user_managed : (version : ℕ) → managers_in version ≡ true → size_of_user version ≡ 68
unfolding size_of_user record_size
user_managed version e = rw e

pub user_range : (version : ℕ) → (56 ≤ size_of_user version) × (size_of_user version ≤ 68)
user_range version =
    by_case (managers_in version) (λ e. rw (user_managed version e) (omega arith, omega arith)) (λ e. rw (user_plain version e) (omega arith, omega arith))

-- so many bytes are written of it
pub length-user_record : (version : ℕ) (u : User) → length (user_record version u) ≡ size_of_user version
unfolding user_record size_of_user
length-user_record version u = length-record_bytes (managers_in version) u

-- the zero bytes with it
pub zeros_user_record : (version : ℕ) (u : User) → user_zeros (user_record version u) ≡ 0
unfolding user_record
zeros_user_record version u = user_zeros-record_bytes (managers_in version) u

-- records of one size: the next one, one that lies among others, and as many as 64
pub size_next : (size i : ℕ) → size * (i + 1) ≡ size * i + size
size_next size i = ap (λ (n : ℕ). size * n) (add-one i) ∙ mul-suc size i

pub size_lies : (size i n : ℕ) → i < n → size * i + size ≤ size * n
size_lies size i n h = omega (arith, mul-suc size i, mul-le-mul_left size h)

pub size_most : (version n m : ℕ) → n ≤ m → size_of_user version * n ≤ 68 * m
size_most version n m h = mul-le-mul (user_range version).1 h

-- the length of a book
pub length_by_lem : (version n m : ℕ) → length_by version n m ≡ size_of_header version + size_of_user version * n + 20 * m
unfolding length_by
length_by_lem version n m = refl

module _ (s : List ℕ) where
  module _ {at size n : ℕ} (begin : at ≡ size_of_header (version_of s)) (sized : size ≡ size_of_user (version_of s)) (count : n ≡ count_of_users s) where
    -- the users stand behind the header, the trades behind the users
    pub users_there : records_of size user_of n (drop at s) ≡ users_of s
    unfolding users_of
    users_there = rw (begin, sized, count)

    pub users_end : at + size * n ≡ trades_at s
    unfolding trades_at place_of_user
    users_end = rw (begin, sized, count)

  -- a user's place
  pub user-there : {at size : ℕ} (i : ℕ) → at ≡ size_of_header (version_of s) → size ≡ size_of_user (version_of s) → at + size * i ≡ place_of_user s i
  unfolding place_of_user
  user-there i begin sized = rw (begin, sized)

  -- and the next one's
  pub user_next : (i : ℕ) → place_of_user s i + size_of_user (version_of s) ≡ place_of_user s (i + 1)
  unfolding place_of_user
  user_next i = omega (arith, size_next (size_of_user (version_of s)) i)

  pub trades_there : {at m : ℕ} → at ≡ trades_at s → m ≡ count_of_trades s → records_of 20 trade_of m (drop at s) ≡ trades_of s
  unfolding trades_of
  trades_there begin count = rw (begin, count)

-- the trades of two books of one version, with as many users, begin at one offset
pub same_begin : (s t : List ℕ) → version_of s ≡ version_of t → count_of_users s ≡ count_of_users t → trades_at s ≡ trades_at t
unfolding trades_at place_of_user
same_begin s t v n = rw (v, n)
