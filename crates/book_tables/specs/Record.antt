-- A user's record as the code's struct: the user, and its managers. Assumes nothing.
use Rattle.std.specs.Prelude.{◌≡◌}
use Rattle.base.specs.Basics.{ℕ, eqb}
use Rattle.book_records.specs.User.{as_user, blank_user, record_size}
use Rattle.rules.specs.Book as model
use Rattle.book_tables.specs.declared.Managers.{Managers}
use Rattle.book_tables.specs.declared.Record.{Record}

unfoldable pub as_managers : Managers → model.Managers
as_managers m = record { pvb = m.pvb; tvb = m.tvb; avb = m.avb }

-- the user of the rules that a record is
unfoldable pub as_record : Record → model.User
as_record r =
    let u = as_user r.user in
    record {
      party = record {
        id = u.party.id;
        role = u.party.role;
        charges = u.party.charges;
        assigned = u.party.assigned;
        managers = as_managers r.managers;
      };
      physical = u.physical;
      position = u.position;
      blocked = u.blocked;
    }

-- the record whose every field is 0
unfoldable pub blank_record : Record
blank_record = record { user = blank_user; managers = record { pvb = 0; tvb = 0; avb = 0 } }

-- 56 or 68 bytes
pub record SizeOfRecord (size : ℕ) : Type 0 where
  pub size_is : size ≡ record_size (eqb size 68)
