-- A record by its two parts: the user's 56 bytes, and its managers behind them. Assumes nothing.
use Rattle.base.specs.Basics.{◌≡◌, refl, ap, ap₂, ◌∙◌, Bool, true, false, List, ◌++◌, ℕ, ◌+◌, ◌≤◌, arith, length, take, drop, length-append}
use Rattle.base.specs.Basics.{length-drop, drop_of_length-le, sets}
use Rattle.fields.proofs.Pack.{set_fields-sets}
use Rattle.fields.proofs.Sets.{sets_right, sets_whole}
use Rattle.fields.specs.Layout.{set_fields}
use Rattle.book_records.proofs.Users.{length-manager_bytes, length-user_bytes, user_of_front}
use Rattle.book_records.specs.User.{alone, as_user, manager_bytes, manager_values, manager_widths, managers_at, record_bytes, record_size, user_bytes, user_of, user_values}
use Rattle.rules.specs.Book as model
use Rattle.book_tables.specs.Record.{as_managers, as_record}
use Rattle.book_tables.specs.declared.Managers.{Managers}
use Rattle.book_tables.specs.declared.Record.{Record}
use Rattle.book_records.specs.declared.User.{User}

-- the size of a record with or without managers
pub managed_size : (managed : Bool) → managed ≡ true → record_size managed ≡ 68
unfolding record_size
managed_size managed e = rw e

pub plain_size : (managed : Bool) → managed ≡ false → record_size managed ≡ 56
unfolding record_size
plain_size managed e = rw e

pub size_least : (managed : Bool) → 56 ≤ record_size managed
unfolding record_size
size_least true = omega arith
size_least false = omega arith

-- read
pub record_read : (c : List ℕ) (u : User) (m : Managers) → as_user u ≡ user_of (take 56 c) → as_managers m ≡ managers_at 56 c → as_record (record { user = u; managers = m }) ≡ user_of c
unfolding as_record alone user_of
record_read c u m e f =
    ap₂
    (λ (v : model.User) (ms : model.Managers).
    record {
      party = record { id = v.party.id; role = v.party.role; charges = v.party.charges; assigned = v.party.assigned; managers = ms };
      physical = v.physical;
      position = v.position;
      blocked = v.blocked;
    })
    (e ∙ user_of_front c) f

-- its bytes without the managers
pub bytes_alone : (r : Record) → user_bytes (as_user r.user) ≡ user_bytes (as_record r)
unfolding user_bytes as_record user_values
bytes_alone r = refl

-- ---- written

pub front_length : (c : List ℕ) (u : User) → 56 ≤ length c → length (user_bytes (as_user u) ++ drop 56 c) ≡ length c
front_length c u h = length-append (user_bytes (as_user u)) (drop 56 c) ∙ omega (arith, length-user_bytes (as_user u), length-drop 56 c)

pub record_written : (c : List ℕ) (r : Record) → length c ≡ 68
    → set_fields manager_widths 56 (manager_values (as_managers r.managers)) (user_bytes (as_user r.user) ++ drop 56 c) ≡ record_bytes true (as_record r)
unfolding record_bytes manager_bytes as_record
record_written c r l =
    let front = user_bytes (as_user r.user) in
    let behind = manager_bytes (as_managers r.managers) in
    set_fields-sets manager_widths 56 (manager_values (as_managers r.managers)) (front ++ drop 56 c)
    ∙ ap (λ (i : ℕ). sets (front ++ drop 56 c) i behind) (let e : 56 ≡ length front + 0 = omega (arith, length-user_bytes (as_user r.user)) in e)
    ∙ sets_right behind front (drop 56 c) 0
    ∙ ap₂ (λ (x y : List ℕ). x ++ y) (bytes_alone r) (sets_whole behind (drop 56 c) (length-drop 56 c ∙ omega (arith, length-manager_bytes (as_managers r.managers))))

pub record_plain : (c : List ℕ) (r : Record) → length c ≡ 56 → (user_bytes (as_user r.user) ++ drop 56 c) ≡ record_bytes false (as_record r)
unfolding record_bytes
record_plain c r l = ap₂ (λ (x y : List ℕ). x ++ y) (bytes_alone r) (drop_of_length-le c {i = 56} (omega arith))
