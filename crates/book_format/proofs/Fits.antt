-- A user that is read from bytes fits them, and so do the users and trades of an accepted book. Assumes nothing.
use Rattle.base.specs.Basics.{◌≡◌, ap, Bool, true, false, cond, List, [], ◌∷◌, ℕ, ◌*◌, ◌<◌, ◌^◌, arith, T, T_not, eqb, leb→le, ltb→lt, ℤ, length, eqb-true}
use Rattle.base.proofs.Tests.{and_l, and_r, by_case, by_test, fails, or_second}
use Rattle.base.specs.Lists.{all}
use Rattle.fields.proofs.Field.{field_lt}
use Rattle.fields.specs.{Field.AllBytes, Layout.Every}
use Rattle.book_records.proofs.Users.{managers_past}
use Rattle.book_records.specs.Trade.{FitsTrade}
use Rattle.book_records.specs.User.{FitsAmounts, FitsManagers, FitsRecord, FitsSigned, FitsUser, amounts_at, managers_at, record_size, user_of}
use Rattle.laws.proofs.{Bounds.entry_le, Bounds.position_bound, Bounds.within-le, Users.all-find, Users.known-id}
use Rattle.laws.specs.Sound.{Sound}
use Rattle.rules.specs.{Areas.managers_in, Book.Book, Book.Managers, Book.Trade, Book.User, Book.at, Book.find, Book.manager_in, Signed.signed_of, Signed.within}
use Rattle.rules.specs.Questions.{amounts_valid, codes_valid, groups_valid, guarantees_valid, known, manager_valid, managers_are_valid, manages, parties_valid}
use Rattle.rules.specs.Questions.{positions_are_valid, trade_is_valid, user_is_valid}
use Rattle.units.proofs.TwosComplement.{pos_part_signed_of_lt, neg_part_signed_of_le}

-- a number of w bits stands for an integer of w bits
signed_fits : (w n : ℕ) → n < 2 ^ w → FitsSigned w (signed_of w n)
signed_fits w n h = record { above = pos_part_signed_of_lt w n h; below = neg_part_signed_of_le w n }

-- three amounts that are read
amounts_fit : (at : ℕ) (c : List ℕ) → AllBytes c → FitsAmounts (amounts_at at c)
unfolding amounts_at
amounts_fit at c b =
    record { pvb = signed_fits 32 _ (field_lt 4 _ c b); tvb = signed_fits 32 _ (field_lt 4 _ c b); avb = signed_fits 32 _ (field_lt 4 _ c b) }

-- a user that is read
pub user_of_fits : (c : List ℕ) → AllBytes c → FitsUser (user_of c)
unfolding user_of
user_of_fits c b =
    record {
      id = field_lt 4 0 c b;
      role = field_lt 1 4 c b;
      physical = amounts_fit 8 c b;
      position = amounts_fit 20 c b;
      charges = signed_fits 64 _ (field_lt 8 32 c b);
      assigned = field_lt 8 40 c b;
      blocked = field_lt 8 48 c b;
    }

-- ---- every field of an accepted book fits its bytes

signed_within : (w n : ℕ) (z : ℤ) → 2 * n < 2 ^ w → T (within n z) → FitsSigned w z
signed_within w n z h t = let l = within-le n z t in record { above = omega (arith, l.0); below = omega (arith, l.1) }

entry_fits : (u : User) (a : ℕ) → a < 3 → T (user_is_valid u) → FitsSigned 32 (at u.physical a)
entry_fits u a k h = let l = entry_le u a k h in record { above = omega (arith, l.0); below = omega (arith, l.1) }

user_fits : (b : Book) → Sound b → (u : User) → T (user_is_valid u) → T (positions_are_valid b.trades u) → FitsUser u
unfolding user_is_valid guarantees_valid at
user_fits b s u h p =
    let d = ltb→lt u.party.id (2 ^ 32) (search (and_l, and_r)) in
    let r = ltb→lt u.party.role 2 (search (and_l, and_r)) in
    let g = leb→le u.blocked u.party.assigned (search (and_l, and_r)) in
    let a = leb→le u.party.assigned 1000000000000 (search (and_l, and_r)) in
    let position : (i : ℕ) → i < 3 → FitsSigned 32 (at u.position i) = λ i k. let l = position_bound b s u h p i k in record { above = omega (arith, l.0); below = omega (arith, l.1) } in
    record {
      id = d;
      role = omega arith;
      physical = record { pvb = entry_fits u 0 (omega arith) h; tvb = entry_fits u 1 (omega arith) h; avb = entry_fits u 2 (omega arith) h };
      position = record { pvb = position 0 (omega arith); tvb = position 1 (omega arith); avb = position 2 (omega arith) };
      charges = signed_within 64 1000000000000 u.party.charges (omega arith) (search (and_l, and_r));
      assigned = omega arith;
      blocked = omega arith;
    }

every_user : (b : Book) → Sound b → (us : List User) → T (all user_is_valid us) → T (all (positions_are_valid b.trades) us) → Every FitsUser us
unfolding all
every_user b s [] h p = tt
every_user b s (u ∷ us) h p =
    let v = positions_are_valid b.trades in
    (user_fits b s u (and_l (user_is_valid u) (all user_is_valid us) h) (and_l (v u) (all v us) p), every_user b s us (and_r (user_is_valid u) (all user_is_valid us) h) (and_r (v u) (all v us) p))

id-lt : (u : User) → T (user_is_valid u) → u.party.id < 2 ^ 32
unfolding user_is_valid
id-lt u h = ltb→lt u.party.id (2 ^ 32) (search (and_l, and_r))

-- a party of a trade is a user, so its id fits
known-lt : (us : List User) (id : ℕ) → T (all user_is_valid us) → T (known us id) → id < 2 ^ 32
known-lt us id h k =
    let v = all-find user_is_valid us id h k in
    let e = known-id us id k in
    omega (arith, id-lt (find us id) v)

trade_fits : (us : List User) (t : Trade) → T (all user_is_valid us) → T (trade_is_valid us t) → FitsTrade t
unfolding trade_is_valid parties_valid codes_valid amounts_valid
trade_fits us t h k =
    let s = known-lt us t.terms.seller h (search (and_l, and_r)) in
    let b = known-lt us t.terms.buyer h (search (and_l, and_r)) in
    let a = ltb→lt t.terms.area 3 (search (and_l, and_r)) in
    let d = ltb→lt t.terms.kind 3 (search (and_l, and_r)) in
    let e = ltb→lt t.terms.day 2 (search (and_l, and_r)) in
    let n = leb→le t.terms.notified 100000 (search (and_l, and_r)) in
    let g = leb→le t.standing t.terms.notified (search (and_l, and_r)) in
    record { seller = s; buyer = b; area = omega arith; kind = omega arith; day = omega arith; notified = omega arith; standing = omega arith }

pub every_trade : (us : List User) (ts : List Trade) → T (all user_is_valid us) → T (all (trade_is_valid us) ts) → Every FitsTrade ts
unfolding all
every_trade us [] h k = tt
every_trade us (t ∷ ts) h k =
    (trade_fits us t h (and_l (trade_is_valid us t) (all (trade_is_valid us) ts) k), every_trade us ts h (and_r (trade_is_valid us t) (all (trade_is_valid us) ts) k))

-- ---- the managers of a user of an accepted book are users, or 0

manager_fits : (b : Book) → Sound b → (u : User) (area : ℕ) → T (manager_valid b.header.version b.users u area)
    → manager_in u.party.managers area < cond (managers_in b.header.version) (2 ^ 32) 1
unfolding manager_valid manages
manager_fits b s u area h =
    let m = manager_in u.party.managers area in
    by_case (eqb m 0)
    (λ e. by_test (λ (n : ℕ). m < n) (managers_in b.header.version) (λ t. omega (arith, eqb-true m 0 e)) (λ t. omega (arith, eqb-true m 0 e)))
    (λ e.
    let k = or_second (eqb m 0) _ (fails e) h in
    by_test (λ (n : ℕ). m < n) (managers_in b.header.version) (λ t. known-lt b.users m s.users (search (and_l, and_r)))
    (λ t. absurd (T_not (managers_in b.header.version) t (and_l (managers_in b.header.version) _ k))))

every_managers : (b : Book) → Sound b → (us : List User) → T (all (managers_are_valid b.header.version b.users) us) → Every (λ u. FitsManagers (managers_in b.header.version) u.party.managers) us
unfolding all managers_are_valid manager_in
every_managers b s [] h = tt
every_managers b s (u ∷ us) h =
    let v = managers_are_valid b.header.version b.users in
    let one = and_l (v u) (all v us) h in
    (record { pvb = manager_fits b s u 0 (search (and_l, and_r)); tvb = manager_fits b s u 1 (search (and_l, and_r)); avb = manager_fits b s u 2 (search (and_l, and_r)) }, every_managers b s us (and_r (v u) (all v us) h))

-- a record fits where its user and its managers do
both_fit : (managed : Bool) (us : List User) → Every FitsUser us → Every (λ u. FitsManagers managed u.party.managers) us → Every (FitsRecord managed) us
both_fit managed [] h k = tt
both_fit managed (u ∷ us) h k = (record { user = h.0; managers = k.0 }, both_fit managed us h.1 k.1)

pub every_record : (b : Book) → Sound b → Every (FitsRecord (managers_in b.header.version)) b.users
unfolding groups_valid
every_record b s =
    both_fit (managers_in b.header.version) b.users (every_user b s b.users s.users s.positions) (every_managers b s b.users s.groups)

-- managers that are read; a record of 56 bytes ends before them
pub managers_at_fit : (managed : Bool) (c : List ℕ) → length c ≡ record_size managed → AllBytes c → FitsManagers managed (user_of c).party.managers
unfolding record_size user_of managers_at
managers_at_fit true c l b = record { pvb = field_lt 4 _ c b; tvb = field_lt 4 _ c b; avb = field_lt 4 _ c b }
managers_at_fit false c l b =
    let e = managers_past c (omega (arith, l)) in
    record { pvb = below (ap (λ (m : Managers). m.pvb) e); tvb = below (ap (λ (m : Managers). m.tvb) e); avb = below (ap (λ (m : Managers). m.avb) e) }
  where
    below : {n : ℕ} → n ≡ 0 → n < 1
    below e = omega arith
