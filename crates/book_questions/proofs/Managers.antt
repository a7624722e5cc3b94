-- Managers that are asked one by one: where they are read, and what the ids say of them. Assumes nothing.
use Rattle.base.specs.Basics.{◌≡◌, refl, sym, ap, ap₂, ◌∙◌, Bool, true, false, not, ◌&&◌, List, [], ◌∷◌, ℕ, zero, suc, ◌+◌, ◌*◌, ◌<◌, ◌≤◌}
use Rattle.base.specs.Basics.{arith, eqb, ltb, length, take, drop, get_or, length-map, length-take, eq-eqb, ne_eqb}
use Rattle.base.specs.Lists.{all}
use Rattle.fields.proofs.Field.{field_part}
use Rattle.fields.proofs.Records.{get_or-records_of, length-records_of}
use Rattle.fields.specs.Field.{field}
use Rattle.fields.specs.Layout.{records_of}
use Rattle.book_format.proofs.Offsets.{user_managed, user_plain}
use Rattle.book_format.proofs.OneUser.{find_place}
use Rattle.book_format.specs.Book.{size_of_user}
use Rattle.book_parties.proofs.Known.{among-known, place_in_among, place_in_place_of}
use Rattle.book_parties.specs.Ids.{FoundIn, Guesses, ids_of, place_in, users_from}
use Rattle.book_records.proofs.Users.{managers_past}
use Rattle.book_records.specs.User.{managers_at, user_of}
use Rattle.rules.specs.Areas.{managers_in}
use Rattle.rules.specs.Book.{User, find, manager_in, nobody}
use Rattle.rules.specs.Levels.{shipper}
use Rattle.rules.specs.Questions.{known, manager_valid, managers_are_valid, manages, users_are_valid}
use Rattle.book_questions.proofs.Zeros.{and_assoc}
use Rattle.book_questions.specs.Asked.{all_valid, GroupsAsked, GroupsIn, UsersAsked, manager_given, managers_given}

-- ---- a field of the user at a place

module _ (s : List ℕ) (n place : ℕ) (h : place < n) where
  abbrev there : User
  there = get_or (users_from 68 0 n s) place nobody

  user-there : there ≡ user_of (take 68 (drop (68 * place) s))
  user-there = get_or-records_of 68 user_of n place s nobody h

  pub id_read : field 4 (68 * place) s ≡ (get_or (users_from 68 0 n s) place nobody).party.id
  unfolding user_of
  id_read =
      ap (λ (i : ℕ). field 4 i s) (let e : 68 * place ≡ 68 * place + 0 = omega arith in e)
      ∙ sym (field_part 4 0 (68 * place) 68 s (omega arith)) ∙ ap (λ (u : User). u.party.id) (sym user-there)

  pub role_read : field 1 (68 * place + 4) s ≡ (get_or (users_from 68 0 n s) place nobody).party.role
  unfolding user_of
  role_read = sym (field_part 1 4 (68 * place) 68 s (omega arith)) ∙ ap (λ (u : User). u.party.role) (sym user-there)

  pub manager_read : (area : ℕ) → area < 3 → field 4 (68 * place + (56 + 4 * area)) s ≡ manager_in (get_or (users_from 68 0 n s) place nobody).party.managers area
  unfolding user_of managers_at manager_in
  manager_read area k =
      sym (field_part 4 (56 + 4 * area) (68 * place) 68 s (omega arith)) ∙ in_area (take 68 (drop (68 * place) s)) area k ∙ ap (λ (u : User). manager_in u.party.managers area) (sym user-there)
    where
      in_area : (c : List ℕ) (area : ℕ) → area < 3 → field 4 (56 + 4 * area) c ≡ manager_in (managers_at 56 c) area
      in_area c zero k = refl
      in_area c (suc zero) k = refl
      in_area c (suc (suc zero)) k = refl
      in_area c (suc (suc (suc area))) k = absurd (omega arith)

-- ---- what the ids say of a manager

module _ {s ids guesses : List ℕ} {n : ℕ} (g : GroupsIn s n ids guesses) (place area : ℕ) {manager : ℕ} (is : manager ≡ manager_in (get_or (users_from 68 0 n s) place nobody).party.managers area) where
  abbrev us : List User
  us = users_from 68 0 n s

  abbrev u : User
  u = get_or us place nobody

  -- none
  pub given_none : manager ≡ 0 → true ≡ manager_given us area u
  unfolding manager_given
  given_none e = rw (← is, eq-eqb manager 0 e)

  module _ (some : manager ≡ 0 → ⊥) {p : ℕ} {is_Known : Bool} (found : FoundIn (take n ids) n manager p is_Known) where
    place_is : p ≡ place_in (ids_of us) manager
    place_is = found.stands ∙ ap (λ (xs : List ℕ). place_in xs manager) g.listed

    known_is : known us manager ≡ is_Known
    unfolding ids_of
    known_is =
        sym (among-known us manager) ∙ sym (place_in_among (ids_of us) manager)
        ∙ ap₂ ltb (sym place_is) (length-map us (λ v. v.party.id) ∙ length-records_of 68 user_of n s) ∙ sym found.told

    find_is : find us manager ≡ get_or us p nobody
    find_is = find_place us manager ∙ ap (λ (i : ℕ). get_or us i nobody) (sym (place_is ∙ place_in_place_of us manager))

    -- an id that is not in the book
    pub given_unknown : is_Known ≡ false → false ≡ manager_given us area u
    unfolding manager_given manages
    given_unknown l = rw (← is, ne_eqb manager 0 some, known_is, l)

    -- one that is
    pub given_known : is_Known ≡ true → {own role managerRole managed : ℕ} → own ≡ u.party.id → role ≡ u.party.role → managerRole ≡ (get_or us p nobody).party.role
        → managed ≡ manager_in (get_or us p nobody).party.managers area
        → (not (eqb manager own) && ((eqb role 0 && eqb managerRole 0) && eqb managed 0)) ≡ manager_given us area u
    unfolding manager_given manages shipper
    given_known l o r q m = rw (← is, ne_eqb manager 0 some, known_is, l, find_is, o, r, q, m)

-- ---- all users

-- the three areas together: two tests of each are a test of each by both
all_both : {A : Type 0} (p q : A → Bool) (xs : List A) → (all p xs && all q xs) ≡ all (λ x. p x && q x) xs
unfolding all
all_both p q [] = refl
all_both p q (x ∷ xs) = exchanged (p x) (all p xs) (q x) (all q xs) ∙ ap (λ (b : Bool). (p x && q x) && b) (all_both p q xs)
  where
    exchanged : (a b c d : Bool) → ((a && b) && (c && d)) ≡ ((a && c) && (b && d))
    exchanged true true c d = refl
    exchanged true false true d = refl
    exchanged true false false d = refl
    exchanged false b c d = refl

pub managers_three : (us : List User) {p t a : Bool} → p ≡ all (manager_given us 0) us → t ≡ all (manager_given us 1) us → a ≡ all (manager_given us 2) us → (p && (t && a)) ≡ all (managers_given us) us
unfolding managers_given
managers_three us p t a =
    rw (p, t, a, all_both (manager_given us 1) (manager_given us 2) us) (all_both (manager_given us 0) (λ u. manager_given us 1 u && manager_given us 2 u) us)

managers_same : (version : ℕ) → managers_in version ≡ true → (us : List User) (v : User) → managers_given us v ≡ managers_are_valid version us v
unfolding managers_given managers_are_valid manager_given manager_valid
managers_same version e us v = rw e

-- a record of 56 bytes has no managers
none_valid : (version : ℕ) (us : List User) (c : List ℕ) → length c ≤ 56 → true ≡ managers_are_valid version us (user_of c)
unfolding managers_are_valid manager_valid user_of manager_in
none_valid version us c l = rw (managers_past c l)

-- in a version with managers
pub managers_asked : (version : ℕ) → managers_in version ≡ true → (us vs : List User) → all (managers_given us) vs ≡ all (managers_are_valid version us) vs
unfolding all
managers_asked version e us [] = refl
managers_asked version e us (v ∷ vs) = ap₂ (λ (x y : Bool). x && y) (managers_same version e us v) (managers_asked version e us vs)

-- in one without: records of 56 bytes have none
pub managers_none : (version : ℕ) (us : List User) (n : ℕ) (s : List ℕ) → true ≡ all (managers_are_valid version us) (records_of 56 user_of n s)
unfolding all records_of
managers_none version us zero s = refl
managers_none version us (suc n) s = ap₂ (λ (x y : Bool). x && y) (none_valid version us (take 56 s) (rw length-take (omega arith))) (managers_none version us n (drop 56 s))

-- in the records of a version
module _ (version n : ℕ) (s : List ℕ) where
  pub groups_none : managers_in version ≡ false → true ≡ all (managers_are_valid version (users_from (size_of_user version) 0 n s)) (users_from (size_of_user version) 0 n s)
  groups_none e =
      let us = users_from (size_of_user version) 0 n s in
      managers_none version us n s ∙ ap (λ (size : ℕ). all (managers_are_valid version us) (records_of size user_of n s)) (sym (user_plain version e))

  module _ (e : managers_in version ≡ true) where
    pub groups_some : all (managers_given (users_from 68 0 n s)) (users_from 68 0 n s) ≡ all (managers_are_valid version (users_from (size_of_user version) 0 n s)) (users_from (size_of_user version) 0 n s)
    groups_some = rw (user_managed version e) (managers_asked version e (users_from 68 0 n s) (users_from 68 0 n s))

    pub groups_in : {ids guesses : List ℕ} → GroupsAsked s version n ids guesses → GroupsIn s n ids guesses
    groups_in g =
        record { padded = g.padded; guessed = g.guessed; users = rw (user_managed version e) at g.users; listed = rw (user_managed version e) at g.listed }

-- ---- question 5, from its two parts

module _ (version : ℕ) (zeros : Bool) {n : ℕ} {us : List User} {valid : Bool} {ids : List ℕ} (fields : UsersAsked us (zeros && users_are_valid us) n valid ids) where
  pub users_no : valid ≡ false → UsersAsked us (zeros && all_valid version us) n false ids
  users_no e =
      let managed = all (managers_are_valid version us) us in
      record { answer = ap (λ (c : Bool). c && managed) (sym e ∙ fields.answer) ∙ sym (and_assoc zeros (users_are_valid us) managed); padded = λ t. absurd t; listed = λ t. absurd t }

  pub users_yes : valid ≡ true → {answer : Bool} → answer ≡ all (managers_are_valid version us) us → UsersAsked us (zeros && all_valid version us) n answer ids
  users_yes e {answer} g =
      let managed = all (managers_are_valid version us) us in
      record {
        answer = g ∙ ap (λ (c : Bool). c && managed) (sym e ∙ fields.answer) ∙ sym (and_assoc zeros (users_are_valid us) managed);
        padded = λ t. fields.padded (rw e tt);
        listed = λ t. fields.listed (rw e tt);
      }

  -- where the fields are valid, the managers can be asked
  pub fields_groups : (s : List ℕ) {guesses : List ℕ} → us ≡ users_from (size_of_user version) 0 n s → size_of_user version * n ≤ length s → valid ≡ true → Guesses guesses n → GroupsAsked s version n ids guesses
  fields_groups s e l h g = record { padded = fields.padded (rw h tt); guessed = g; users = l; listed = fields.listed (rw h tt) ∙ ap ids_of e }
