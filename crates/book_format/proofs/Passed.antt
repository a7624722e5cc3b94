-- What the questions 1 to 7 tell of bytes: their form, their zero bytes, and that the book they hold is accepted. Assumes nothing.
use Rattle.base.specs.Basics.{◌≡◌, ◌&&◌, List, suc, zero, ℕ, T, eqb, eqb→eq, leb, le→leb, drop, length, take}
use Rattle.fields.proofs.Records.{length-records_of}
use Rattle.fields.specs.Layout.{EveryPart, records_of}
use Rattle.book_format.proofs.Formed.{book_passed, formed_of}
use Rattle.book_format.specs.Book.{book_of, count_of_trades, trades_at, trades_of, count_of_users, users_of, version_of, size_of_header, size_of_user}
use Rattle.book_format.specs.Questions.{Formed, about_bytes, about_fields, about_form, book_number, parts_of, trade_zeros_valid, user_zeros_valid}
use Rattle.laws.proofs.{Refusals.append_yes, Refusals.first_yes, Sound.sound}
use Rattle.laws.specs.Sound.{Sound}
use Rattle.base.proofs.Tests.{and_i, and_l, and_r}
use Rattle.book_records.specs.{Trade.trade_of, Trade.trade_zeros, User.user_of, User.user_zeros}
use Rattle.base.specs.Lists.{all}
use Rattle.rules.specs.Questions.{counts_are_valid, groups_valid, ids_rise, refusal, trade_is_valid, user_is_valid, users_are_valid, version_is_valid}

pub record Passed (s : List ℕ) : Type 0 where
  pub form : Formed s
  pub user_zeros_lem : EveryPart (λ c. user_zeros c ≡ 0) (size_of_user (version_of s)) (count_of_users s) (drop (size_of_header (version_of s)) s)
  pub trade_zeros_lem : EveryPart (λ c. trade_zeros c ≡ 0) 20 (count_of_trades s) (drop (trades_at s) s)
  pub sound : Sound (book_of s)

each_zero : (z : List ℕ → ℕ) (len n : ℕ) (s : List ℕ) → T (all (λ c. eqb (z c) 0) (parts_of len n s)) → EveryPart (λ c. z c ≡ 0) len n s
unfolding parts_of records_of all
each_zero z len zero s h = tt
each_zero z len (suc n) s h =
    let a = eqb (z (take len s)) 0 in
    let b = all (λ c. eqb (z c) 0) (parts_of len n (drop len s)) in
    (eqb→eq (z (take len s)) 0 (and_l a b h), each_zero z len n (drop len s) (and_r a b h))

pub length-users_of : (s : List ℕ) → length (users_of s) ≡ count_of_users s
unfolding users_of
length-users_of s = length-records_of (size_of_user (version_of s)) user_of (count_of_users s) (drop (size_of_header (version_of s)) s)

pub length-trades_of : (s : List ℕ) → length (trades_of s) ≡ count_of_trades s
unfolding trades_of
length-trades_of s = length-records_of 20 trade_of (count_of_trades s) (drop (trades_at s) s)

counts_valid_lem : (s : List ℕ) → Formed s → T (counts_are_valid (book_of s))
unfolding counts_are_valid book_of
counts_valid_lem s f =
    rw (length-users_of s, length-trades_of s)
    (and_i (leb 1 (count_of_users s) && leb (count_of_users s) 64) (leb (count_of_trades s) 256)
    (and_i (leb 1 (count_of_users s)) (leb (count_of_users s) 64) (le→leb 1 (count_of_users s) f.some) (le→leb (count_of_users s) 64 f.users))
    (le→leb (count_of_trades s) 256 f.trades))

version_valid_lem : (s : List ℕ) → Formed s → T (version_is_valid (book_of s))
unfolding version_is_valid book_of
version_valid_lem s f = f.version

pub passed_of : (s : List ℕ) → refusal (about_bytes s) ≡ 0 → Passed s
unfolding about_bytes about_fields user_zeros_valid trade_zeros_valid users_are_valid book_of
passed_of s h =
    let e = append_yes (about_form s) (about_fields s) h in
    let f = formed_of s e.0 in
    let q4 = first_yes _ _ e.1 tt in
    let q5 = first_yes _ _ q4.1 tt in
    let q6 = first_yes _ _ q5.1 tt in
    let q7 = first_yes _ _ q6.1 tt in
    let uz = user_zeros_valid s in
    let ur = ids_rise 0 (users_of s) in
    let uv = all user_is_valid (users_of s) in
    let ug = groups_valid (book_of s) in
    let q5u = and_r uz ((ur && uv) && ug) q5.0 in
    let tz = trade_zeros_valid s in
    let tv = all (trade_is_valid (users_of s)) (trades_of s) in
    record {
      form = f;
      user_zeros_lem = each_zero user_zeros (size_of_user (version_of s)) (count_of_users s) (drop (size_of_header (version_of s)) s) (and_l uz ((ur && uv) && ug) q5.0);
      trade_zeros_lem = each_zero trade_zeros 20 (count_of_trades s) (drop (trades_at s) s) (and_l tz tv q6.0);
      sound = record {
        version = version_valid_lem s f;
        counts = counts_valid_lem s f;
        header = q4.0;
        ids = and_l ur uv (and_l (ur && uv) ug q5u);
        users = and_r ur uv (and_l (ur && uv) ug q5u);
        groups = and_r (ur && uv) ug q5u;
        trades = and_r tz tv q6.0;
        positions = q7.0;
      };
    }

pub passed : (s : List ℕ) → book_number s ≡ 0 → Passed s
passed s h = passed_of s (book_passed s h)
