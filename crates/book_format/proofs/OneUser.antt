-- A book with one user changed: the same bytes but for that user's record, which stands in its place. Assumes nothing.
use Rattle.base.specs.Basics.{◌≡◌, ◌∙◌, ap, refl, sym, false, true, List, [], ◌∷◌, ◌*◌, ◌+◌, ◌<◌, ◌≤◌, suc, ℕ, le_of_eq, arith, T, eqb, leb-suc-suc, ltb, get_or}
use Rattle.base.specs.Basics.{length, length-set, set, sets, le-ltb, lt-ltb, eqb-true}
use Rattle.fields.proofs.Sets.{sets_whole}
use Rattle.fields.specs.{Field.AllBytes, Layout.bytes_of_records}
use Rattle.book_format.proofs.{Held.record_part, Parts.records_part, Round.bytes_of_book_of}
use Rattle.book_format.proofs.{Offsets.length-user_record, Offsets.user_range, Passed.Passed, Passed.length-users_of, Written.length-header}
use Rattle.book_format.specs.Book.{book_of, bytes_of, header_bytes, size_of_header, header_values, trades_of, place_of_user, count_of_users, user_record, size_of_user, users_of}
use Rattle.book_format.specs.Book.{version_of}
use Rattle.book_format.specs.Steps.{place_of}
use Rattle.base.proofs.Tests.{and_r, by_case}
use Rattle.laws.proofs.Users.{change_absent}
use Rattle.book_records.proofs.Users.{length-user_bytes}
use Rattle.book_records.specs.{Trade.trade_bytes, User.user_bytes}
use Rattle.rules.specs.{Book.User, Book.find, Book.nobody, Changes.change, Changes.with_users, Questions.ids_rise, Questions.known}
use Rattle.base.specs.Lists.{any}

-- ---- the place of a user

pub find_place : (us : List User) (id : ℕ) → find us id ≡ get_or us (place_of us id) nobody
unfolding find place_of
find_place [] id = refl
find_place (u ∷ us) id = by_case (eqb u.party.id id) (λ e. rw e) (λ e. rw e (find_place us id))

-- it is below the number of users exactly where the id is known
pub place_known : (us : List User) (id : ℕ) → ltb (place_of us id) (length us) ≡ known us id
unfolding place_of known any
place_known [] id = refl
place_known (u ∷ us) id =
    by_case (eqb u.party.id id) (λ e. rw e (lt-ltb 0 (suc (length us)) (omega arith)))
    (λ e. rw e (leb-suc-suc (suc (place_of us id)) (length us) ∙ place_known us id))

-- the changed users are the users with that one record set
pub change_place : (f : User → User) (us : List User) (low id : ℕ) → T (ids_rise low us) → change id f us ≡ set us (place_of us id) (f (find us id))
unfolding change find place_of ids_rise
change_place f [] low id r = refl
change_place f (u ∷ us) low id r =
    let rest = and_r (ltb low u.party.id) (ids_rise u.party.id us) r in
    by_case (eqb u.party.id id)
    (λ e. rw e (ap (λ (l : List User). f u ∷ l) (change_absent f us u.party.id id (le_of_eq (sym (eqb-true u.party.id id e))) rest)))
    (λ e. rw e (ap (λ (l : List User). u ∷ l) (change_place f us u.party.id id rest)))

-- ---- in bytes

module _ (s : List ℕ) (id : ℕ) where
  pub known_place : place_of (users_of s) id < count_of_users s → known (users_of s) id ≡ true
  known_place h = sym (place_known (users_of s) id) ∙ rw (length-users_of s) (lt-ltb (place_of (users_of s) id) (count_of_users s) h)

  pub unknown_place : count_of_users s ≤ place_of (users_of s) id → known (users_of s) id ≡ false
  unknown_place h = sym (place_known (users_of s) id) ∙ rw (length-users_of s) (le-ltb (place_of (users_of s) id) (count_of_users s) h)

pub changed_bytes : (s : List ℕ) → AllBytes s → Passed s → (id : ℕ) (f : User → User) → place_of (users_of s) id < count_of_users s → (f (find (users_of s) id)).party.managers ≡ (find (users_of s) id).party.managers
    → bytes_of (with_users (book_of s) (change id f (users_of s))) ≡ sets s (place_of_user s (place_of (users_of s) id)) (user_bytes (f (find (users_of s) id)))
unfolding bytes_of header_bytes with_users header_values book_of place_of_user
changed_bytes s b p id f k kept =
    let us = users_of s in
    let i = place_of us id in
    let v = f (find us id) in
    let x = get_or us i nobody in
    let R = user_record (version_of s) in
    let W = size_of_user (version_of s) in
    let H = header_bytes (book_of s) in
    let U = bytes_of_records R us in
    let Q = bytes_of_records trade_bytes (trades_of s) in
    let n : length us ≡ count_of_users s = length-users_of s in
    let g : i < length us = omega arith in
    let e : change id f us ≡ set us i v = change_place f us 0 id p.sound.ids in
    let h : length H ≡ size_of_header (version_of s) = length-header (book_of s) in
    let same : v.party.managers ≡ x.party.managers = kept ∙ ap (λ (u : User). u.party.managers) (find_place us id) in
    let whole : user_bytes v ≡ sets (user_bytes x) 0 (user_bytes v) = sym (sets_whole (user_bytes v) (user_bytes x) (length-user_bytes x ∙ sym (length-user_bytes v))) in
    let here : R v ≡ sets (R x) 0 (user_bytes v) = record_part (version_of s) v x same 0 (user_bytes v) (omega (arith, length-user_bytes v)) whole in
    rw (e, length-set)
    (records_part R W (length-user_record (version_of s)) H Q us i 0 v nobody (user_bytes v) g (omega (arith, length-user_bytes v, user_range (version_of s))) here
    ∙ ap (λ (l : List ℕ). sets l (length H + (W * i + 0)) (user_bytes v)) (bytes_of_book_of s b p)
    ∙ ap (λ (a : ℕ). sets s a (user_bytes v)) (omega (arith, h)))
