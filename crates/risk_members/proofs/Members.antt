-- Who bears a user's risk, and the amounts that are read of users. Assumes nothing.
use Rattle.base.specs.Basics.{◌≡◌, refl, sym, ap, ◌∙◌, List, ℕ, ◌≤◌, ◌<◌, arith, ℤ, length, get_or, eq-eqb, ne_eqb}
use Rattle.base.proofs.Fronts.{all_at}
use Rattle.base.specs.Parts.{neg_part, pos_part}
use Rattle.book_format.proofs.Passed.{length-users_of}
use Rattle.book_format.proofs.Places.{user_field}
use Rattle.book_format.specs.Book.{book_of, place_of_user, count_of_users, users_of}
use Rattle.book_format.specs.Held.{Accepted}
use Rattle.book_format.specs.Places.{UserIn}
use Rattle.book_records.proofs.Amounts.{at-as_amounts}
use Rattle.book_records.specs.User.{alone, as_amounts, as_user, user_of}
use Rattle.book_records.specs.declared.User as code
use Rattle.fields.specs.Field.{field}
use Rattle.laws.proofs.Bounds.{entry_le, position_bound}
use Rattle.rules.specs.Bearers.{bearer}
use Rattle.rules.specs.Book.{PerArea, User, at, manager_in, nobody}
use Rattle.rules.specs.Questions.{positions_are_valid, user_is_valid}
use Rattle.units.proofs.Amounts.{parts_net}
use Rattle.units.specs.Amounts.{balance, net}
use Rattle.units.specs.declared.Net.{Net}
use Rattle.risk_members.proofs.Sums.{Near}

-- ---- who bears the risk

module _ (v : User) (area : ℕ) {id : ℕ} (is : id ≡ manager_in v.party.managers area) where
  pub bears_itself : {own : ℕ} → id ≡ 0 → own ≡ v.party.id → own ≡ bearer v area
  unfolding bearer
  bears_itself z e = e ∙ rw (eq-eqb (manager_in v.party.managers area) 0 (sym is ∙ z)) refl

  pub bears_manager : (id ≡ 0 → ⊥) → id ≡ bearer v area
  unfolding bearer
  bears_manager n = is ∙ rw (ne_eqb (manager_in v.party.managers area) 0 (λ z. n (is ∙ z))) refl

-- the id in a record
pub id_is : {s : List ℕ} {place a : ℕ} → UserIn s place → a ≡ place_of_user s place → field 4 a s ≡ (get_or (users_of s) place nobody).party.id
unfolding user_of
id_is {s} {place} {a} p e = ap (λ (i : ℕ). field 4 i s) (e ∙ omega arith) ∙ user_field p 4 0 (λ u. u.party.id) (λ n. n) (omega arith) (λ c. refl)

-- ---- the record that is read

module _ (u : code.User) (v : User) (h : as_user u ≡ alone v) where
  pub read_id : u.id ≡ v.party.id
  unfolding as_user alone
  read_id = ap (λ (w : User). w.party.id) h

  pub read_role : u.role ≡ v.party.role
  unfolding as_user alone
  read_role = ap (λ (w : User). w.party.role) h

  pub read_charges : balance u.charges ≡ v.party.charges
  unfolding as_user alone
  read_charges = ap (λ (w : User). w.party.charges) h

  pub read_blocked : u.blocked.0 ≡ v.blocked
  unfolding as_user alone
  read_blocked = ap (λ (w : User). w.blocked) h

  pub read_physical : as_amounts u.physical ≡ v.physical
  unfolding as_user alone
  read_physical = ap (λ (w : User). w.physical) h

  pub read_position : as_amounts u.position ≡ v.position
  unfolding as_user alone
  read_position = ap (λ (w : User). w.position) h

-- an area of an array
amount_at_lem : (v : List Net) {q : PerArea} → as_amounts v ≡ q → (area : ℕ) → area < 3 → net (get_or v area (record { 0 = 0 })) ≡ at q area
amount_at_lem v e area l = sym (at-as_amounts v area l) ∙ ap (λ (q : PerArea). at q area) e

-- an amount that was read, within what a book can have
pub record Amount (x : Net) (z : ℤ) : Type 0 where
  pub is : net x ≡ z
  pub near : Near x.0

amount_of : (x : Net) (z : ℤ) → net x ≡ z → pos_part z ≤ 26600000 → neg_part z ≤ 26600000 → Amount x z
amount_of x z e p n =
    let parts = parts_net x in
    record { is = e; near = record { low = omega (arith, ap pos_part e, ap neg_part e); high = omega (arith, ap pos_part e, ap neg_part e) } }

-- what the user at a place has in an area, of the record that is read
module _ (s : List ℕ) (a : Accepted s) {i : ℕ} (h : i < count_of_users s) {area : ℕ} (l : area < 3) (u : code.User)
    (e : as_user u ≡ alone (get_or (users_of s) i nobody)) where
  abbrev user : User
  user = get_or (users_of s) i nobody

  pub entry_read : Amount (get_or u.physical area (record { 0 = 0 })) (at (get_or (users_of s) i nobody).physical area)
  unfolding book_of
  entry_read =
      let b = entry_le user area l (all_at user_is_valid (users_of s) a.sound.users i nobody (omega (arith, length-users_of s))) in
      amount_of (get_or u.physical area (record { 0 = 0 })) (at user.physical area)
      (amount_at_lem u.physical (read_physical u user e) area l) (omega (arith, b.0)) (omega (arith, b.1))

  pub position_read : Amount (get_or u.position area (record { 0 = 0 })) (at (get_or (users_of s) i nobody).position area)
  unfolding book_of
  position_read =
      let k : i < length (users_of s) = omega (arith, length-users_of s) in
      let b = position_bound (book_of s) a.sound user (all_at user_is_valid (users_of s) a.sound.users i nobody k) (all_at (positions_are_valid (book_of s).trades) (users_of s) a.sound.positions i nobody k) area l in
      amount_of (get_or u.position area (record { 0 = 0 })) (at user.position area) (amount_at_lem u.position (read_position u user e) area l) b.0 b.1
