-- An accepted book is accepted as a version to which nothing is lost; to its own version nothing is lost. Assumes nothing.
use Rattle.base.specs.Basics.{◌≡◌, refl, subst, Bool, true, false, ◌&&◌, ◌||◌, List, ℕ, ◌≤◌, arith, T, eqb, eqb→eq, leb, le→leb, eqb-true}
use Rattle.base.proofs.Tests.{all_by, and_i, and_l, and_r, by_case, eqb_of, fails, holds, or_l, or_r, or_second}
use Rattle.rules.specs.Areas.{Prices, managers_in, selling_in}
use Rattle.rules.specs.Book.{Book, User, manager_in}
use Rattle.base.specs.Lists.{all}
use Rattle.rules.specs.Calendar.{real_day}
use Rattle.rules.specs.Questions.{counts_are_valid, groups_valid, header_is_valid, manager_valid, manages, managers_are_valid, prices_are_valid, most_selling, selling_is_valid, version_known, version_is_valid}
use Rattle.laws.specs.Sound.{Sound}
use Rattle.laws.proofs.Bounds.{selling_le, selling_most_lem}
use Rattle.conversions.specs.Conversion.{as_version, kept, keeps_managers, keeps_tariffs, unmanaged_user}

-- the highest selling tariff of a version
most_some : (v : ℕ) → selling_in v ≡ true → most_selling v ≡ 100000
unfolding most_selling
most_some v e = rw e

most_none : (v : ℕ) → selling_in v ≡ false → most_selling v ≡ 0
unfolding most_selling
most_none v e = rw e

-- tariffs of 0 are kept by every version
none_kept : (v : ℕ) (f : Prices) → f.s ≡ 0 → f.u ≡ 0 → T (keeps_tariffs v f)
unfolding keeps_tariffs
none_kept v f s u =
    or_r (selling_in v) (eqb f.s 0 && eqb f.u 0) (and_i (eqb f.s 0) (eqb f.u 0) (eqb_of f.s 0 s) (eqb_of f.u 0 u))

-- a version without selling tariffs keeps only tariffs of 0
kept_none : (v : ℕ) (f : Prices) → selling_in v ≡ false → T (keeps_tariffs v f) → (f.s ≡ 0) × (f.u ≡ 0)
unfolding keeps_tariffs
kept_none v f e h =
    let z = or_second (selling_in v) (eqb f.s 0 && eqb f.u 0) (fails e) h in
    (eqb→eq f.s 0 (and_l (eqb f.s 0) (eqb f.u 0) z), eqb→eq f.u 0 (and_r (eqb f.s 0) (eqb f.u 0) z))

-- the tariffs of a version without selling tariffs are kept by every version
tariffs_plain : (b : Book) → Sound b → selling_in b.header.version ≡ false → (v : ℕ) → T (keeps_tariffs v b.header.prices)
tariffs_plain b s e v =
    let l = selling_le b s in
    let m = most_none b.header.version e in
    none_kept v b.header.prices (omega arith) (omega arith)

-- ---- managers

-- a valid manager in a version without managers is 0
none_managed : (w : ℕ) (us : List User) (u : User) (area : ℕ) → managers_in w ≡ false → T (manager_valid w us u area) → T (eqb (manager_in u.party.managers area) 0)
unfolding manager_valid
none_managed w us u area e h =
    let m = manager_in u.party.managers area in
    by_case (eqb m 0) (λ z. holds z) (λ z. absurd (go (managers_in w) (manages us m u area) e (or_second (eqb m 0) (managers_in w && manages us m u area) (fails z) h)))
  where
    go : (c d : Bool) → c ≡ false → T (c && d) → ⊥
    go c d e t = let z : T false = subst (λ (x : Bool). T x) e (and_l c d t) in z

-- one that is 0, or that a version with managers keeps, is valid there
zero_managed : (v : ℕ) (us : List User) (u : User) (area : ℕ) → T (eqb (manager_in u.party.managers area) 0) → T (manager_valid v us u area)
unfolding manager_valid
zero_managed v us u area z =
    let m = manager_in u.party.managers area in
    or_l (eqb m 0) (managers_in v && manages us m u area) z

some_managed : (w v : ℕ) (us : List User) (u : User) (area : ℕ) → managers_in v ≡ true → T (manager_valid w us u area) → T (manager_valid v us u area)
unfolding manager_valid
some_managed w v us u area e h =
    let m = manager_in u.party.managers area in
    by_case (eqb m 0) (λ z. or_l (eqb m 0) (managers_in v && manages us m u area) (holds z))
    (λ z. or_r (eqb m 0) (managers_in v && manages us m u area) (and_i (managers_in v) (manages us m u area) (holds e) (and_r (managers_in w) (manages us m u area) (or_second (eqb m 0) (managers_in w && manages us m u area) (fails z) h))))

-- of the three areas
each_area : (p q : ℕ → Bool) → ((area : ℕ) → T (p area) → T (q area)) → T (p 0 && (p 1 && p 2)) → T (q 0 && (q 1 && q 2))
each_area p q f h =
    and_i (q 0) (q 1 && q 2) (f 0 (and_l (p 0) (p 1 && p 2) h))
    (and_i (q 1) (q 2) (f 1 (and_l (p 1) (p 2) (and_r (p 0) (p 1 && p 2) h))) (f 2 (and_r (p 1) (p 2) (and_r (p 0) (p 1 && p 2) h))))

-- the managers of a version without any are kept by every version
pub managers_plain : (b : Book) → Sound b → managers_in b.header.version ≡ false → (v : ℕ) → T (keeps_managers v b.users)
unfolding keeps_managers groups_valid managers_are_valid unmanaged_user
managers_plain b s e v =
    or_r (managers_in v) (all unmanaged_user b.users)
    (all_by (managers_are_valid b.header.version b.users) unmanaged_user
    (λ u h. each_area (manager_valid b.header.version b.users u) (λ area. eqb (manager_in u.party.managers area) 0) (λ area. none_managed b.header.version b.users u area e) h) b.users s.groups)

-- a version that keeps the managers of a book finds them valid
groups_kept : (b : Book) → Sound b → (v : ℕ) → T (keeps_managers v b.users) → T (all (managers_are_valid v b.users) b.users)
unfolding keeps_managers groups_valid managers_are_valid unmanaged_user
groups_kept b s v k =
    let us = b.users in
    by_case (managers_in v)
    (λ e. all_by (managers_are_valid b.header.version us) (managers_are_valid v us) (λ u h. each_area (manager_valid b.header.version us u) (manager_valid v us u) (λ area. some_managed b.header.version v us u area e) h) us s.groups)
    (λ e. all_by unmanaged_user (managers_are_valid v us) (λ u h. each_area (λ area. eqb (manager_in u.party.managers area) 0) (manager_valid v us u) (λ area. zero_managed v us u area) h) us (or_second (managers_in v) (all unmanaged_user us) (fails e) k))

-- a version with selling tariffs keeps any
some_kept : (v : ℕ) (f : Prices) → selling_in v ≡ true → T (keeps_tariffs v f)
unfolding keeps_tariffs
some_kept v f e = or_l (selling_in v) (eqb f.s 0 && eqb f.u 0) (holds e)

-- a version with managers keeps any
managers_some : (v : ℕ) (us : List User) → managers_in v ≡ true → T (keeps_managers v us)
unfolding keeps_managers
managers_some v us e = or_l (managers_in v) (all unmanaged_user us) (holds e)

-- to its own version nothing is lost
pub own_kept : (b : Book) → Sound b → T (kept b.header.version b)
unfolding kept
own_kept b s =
    let v = b.header.version in
    and_i (keeps_tariffs v b.header.prices) (keeps_managers v b.users)
    (by_case (selling_in v) (λ e. some_kept v b.header.prices e) (λ e. tariffs_plain b s e v))
    (by_case (managers_in v) (λ e. managers_some v b.users e) (λ e. managers_plain b s e v))

is_true : (c : Bool) → T c → c ≡ true
is_true true h = refl
is_true false h = absurd h

-- versions from 2 on have selling tariffs, version 3 has managers
selling_two : (w : ℕ) → selling_in w ≡ true → 2 ≤ w
unfolding selling_in
selling_two w e =
    by_case (eqb w 2) (λ d. omega (arith, eqb-true w 2 d)) (λ d. omega (arith, eqb→eq w 3 (or_second (eqb w 2) (eqb w 3) (fails d) (holds e))))

two_selling : (v : ℕ) → T (version_known v) → 2 ≤ v → selling_in v ≡ true
unfolding version_known selling_in
two_selling v k l =
    by_case (eqb v 1) (λ d. absurd (omega (arith, eqb-true v 1 d))) (λ d. is_true (selling_in v) (or_second (eqb v 1) (selling_in v) (fails d) k))

managers_three : (w : ℕ) → managers_in w ≡ true → w ≡ 3
unfolding managers_in
managers_three w e = eqb-true w 3 e

three_managers : (v : ℕ) → T (version_known v) → 3 ≤ v → managers_in v ≡ true
unfolding version_known managers_in
three_managers v k l =
    by_case (eqb v 1) (λ d. absurd (omega (arith, eqb-true v 1 d)))
    (λ d. by_case (eqb v 2) (λ c. absurd (omega (arith, eqb-true v 2 c))) (λ c. is_true (eqb v 3) (or_second (eqb v 2) (eqb v 3) (fails c) (or_second (eqb v 1) (eqb v 2 || eqb v 3) (fails d) k))))

pub upward_kept : (b : Book) → Sound b → (v : ℕ) → T (version_known v) → b.header.version ≤ v → T (kept v b)
unfolding kept
upward_kept b s v k l =
    let w = b.header.version in
    and_i (keeps_tariffs v b.header.prices) (keeps_managers v b.users)
    (by_case (selling_in w) (λ e. some_kept v b.header.prices (two_selling v k (omega (arith, selling_two w e)))) (λ e. tariffs_plain b s e v))
    (by_case (managers_in w) (λ e. managers_some v b.users (three_managers v k (omega (arith, managers_three w e)))) (λ e. managers_plain b s e v))

-- the selling tariffs are in the range of a version that keeps them
selling_kept : (b : Book) → Sound b → (v : ℕ) → T (keeps_tariffs v b.header.prices) → T (selling_is_valid v b.header.prices)
unfolding selling_is_valid
selling_kept b s v k =
    let f = b.header.prices in
    let l = selling_le b s in
    let m = selling_most_lem b.header.version in
    by_case (selling_in v)
    (λ e. rw (most_some v e) (and_i (leb f.s 100000) (leb f.u 100000) (le→leb f.s 100000 (omega arith)) (le→leb f.u 100000 (omega arith))))
    (λ e.
    let z = kept_none v f e k in
    rw (most_none v e) (and_i (leb f.s 0) (leb f.u 0) (le→leb f.s 0 (omega arith)) (le→leb f.u 0 (omega arith))))

pub sound_as : (b : Book) → Sound b → (v : ℕ) → T (version_known v) → T (kept v b) → Sound (as_version v b)
unfolding as_version version_is_valid header_is_valid counts_are_valid groups_valid kept
sound_as b s v known k =
    let day = real_day b.header.date in
    let prices = prices_are_valid b.header.prices in
    let rest = prices && selling_is_valid b.header.version b.header.prices in
    record {
      version = known;
      counts = s.counts;
      header = and_i day (prices && selling_is_valid v b.header.prices) (and_l day rest s.header)
          (and_i prices (selling_is_valid v b.header.prices) (and_l prices (selling_is_valid b.header.version b.header.prices) (and_r day rest s.header)) (selling_kept b s v (and_l (keeps_tariffs v b.header.prices) (keeps_managers v b.users) k)));
      ids = s.ids;
      users = s.users;
      groups = groups_kept b s v (and_r (keeps_tariffs v b.header.prices) (keeps_managers v b.users) k);
      trades = s.trades;
      positions = s.positions;
    }
