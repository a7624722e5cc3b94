-- Whether the user of an id is a shipper of the book, and the number of question 26 by what the party may do. Assumes nothing.
use Rattle.base.specs.Basics.{◌≡◌, ◌∙◌, ap, refl, sym, Bool, true, false, cond, List, ℕ, ◌≤◌, eqb, get_or, eq-eqb, ne_eqb}
use Rattle.book_format.proofs.OneUser.{find_place, known_place, unknown_place}
use Rattle.book_format.specs.Book.{book_of, count_of_users, users_of}
use Rattle.book_format.specs.Questions.{book_number}
use Rattle.book_format.specs.Steps.{place_of}
use Rattle.call_entry.specs.Entered.{Found}
use Rattle.book_records.specs.User.{alone, as_user}
use Rattle.book_records.specs.declared.User as code
use Rattle.rules.specs.Book.{User, find, nobody}
use Rattle.rules.specs.Levels.{shipper}
use Rattle.rules.specs.Questions.{after, first_of}
use Rattle.rights.specs.Acting.{entering_number}
use Rattle.rights.specs.Party.{Matter, Party, is_shipper_in, may_do, own, party_of, operator, operators, right_number, shipper_of}
use Rattle.laws.proofs.Refusals.{after_nonzero}

-- ---- a shipper of the book

pub in_no_place : (s : List ℕ) (id : ℕ) → count_of_users s ≤ place_of (users_of s) id → false ≡ is_shipper_in (book_of s) id
unfolding is_shipper_in book_of
in_no_place s id h = rw (unknown_place s id h)

pub at_a_place : (s : List ℕ) (id : ℕ) {place : ℕ} (u : code.User) → Found s id place → as_user u ≡ alone (get_or (users_of s) place nobody) → eqb u.role 0 ≡ is_shipper_in (book_of s) id
unfolding is_shipper_in book_of shipper as_user alone
at_a_place s id u f h =
    let e : u.role ≡ (find (users_of s) id).party.role
    = ap (λ (v : User). v.party.role) h
    ∙ ap (λ (v : User). v.party.role) (ap (λ (i : ℕ). get_or (users_of s) i nobody) f.stands ∙ sym (find_place (users_of s) id)) in
    rw (known_place s id (rw f.stands at f.known), e)

-- ---- the party of a number

pub operator_number : (number : ℕ) → number ≡ 4294967296 → operator ≡ party_of number
unfolding party_of
operator_number number e = rw (eq-eqb number 4294967296 e)

pub shipper_number : (number : ℕ) → (number ≡ 4294967296 → ⊥) → shipper_of number ≡ party_of number
unfolding party_of
shipper_number number n = rw (ne_eqb number 4294967296 n)

-- ---- the number of 26

module _ (s : List ℕ) (actor : Party) (m : Matter) where
  -- a question of the book refuses
  pub asked_refused : {asked : ℕ} → asked ≡ book_number s → (asked ≡ 0 → ⊥) → asked ≡ entering_number actor m s
  unfolding entering_number
  asked_refused e h =
      let right = right_number (book_of s) actor m in
      sym (after_nonzero (λ k. k) right h) ∙ ap (λ (n : ℕ). first_of n right) e

  -- none does
  asked_right : {may : Bool} → 0 ≡ book_number s → may_do (book_of s) actor m ≡ may → cond may 0 26 ≡ entering_number actor m s
  unfolding after right_number entering_number
  asked_right z e =
      ap (λ (c : Bool). cond c 0 26) (sym e)
      ∙ ap (λ (n : ℕ). first_of n (cond (may_do (book_of s) actor m) 0 26)) z

  -- and the party may do it
  pub allowed : 0 ≡ book_number s → may_do (book_of s) actor m ≡ true → 0 ≡ entering_number actor m s
  allowed z e = asked_right z e

  -- or may not
  pub forbidden : 0 ≡ book_number s → may_do (book_of s) actor m ≡ false → 26 ≡ entering_number actor m s
  forbidden z e = asked_right z e

-- what the operator may do, and a shipper of what is the operator's
pub operators_right : (s : List ℕ) (m : Matter) → may_do (book_of s) operator m ≡ true
unfolding may_do
operators_right s m = refl

pub operators_alone : (s : List ℕ) (party : ℕ) → may_do (book_of s) (shipper_of party) operators ≡ false
unfolding may_do
operators_alone s party = refl

-- a shipper and an id's own matter
module _ (s : List ℕ) (party id : ℕ) where
  pub own_shipper : party ≡ id → true ≡ is_shipper_in (book_of s) id → may_do (book_of s) (shipper_of party) (own id) ≡ true
  unfolding may_do
  own_shipper e h = rw (e, ← h, eq-eqb id id refl)

  pub own_no_shipper : party ≡ id → false ≡ is_shipper_in (book_of s) id → may_do (book_of s) (shipper_of party) (own id) ≡ false
  unfolding may_do
  own_no_shipper e h = rw (e, ← h, eq-eqb id id refl)

  pub anothers : (party ≡ id → ⊥) → may_do (book_of s) (shipper_of party) (own id) ≡ false
  unfolding may_do
  anothers n = rw (ne_eqb party id n)
