-- A user in 56 bytes, with its managers in 68, in the rules, and as the code's struct. Assumes nothing.
use Rattle.std.specs.Prelude.{◌∷◌, ◌++◌, ◌+◌, ◌*◌, ◌<◌, ◌≤◌, ◌^◌}
use Rattle.base.specs.Basics.{Bool, cond, List, [], ℕ, ℤ, get_or, replicate}
use Rattle.base.specs.Parts.{pos_part, neg_part}
use Rattle.rules.specs.Signed.{signed_of, bits_of}
use Rattle.rules.specs.Book.{PerArea, Managers, unmanaged}
use Rattle.rules.specs.Book as model
use Rattle.fields.specs.Field.{field}
use Rattle.fields.specs.Layout.{pack}
use Rattle.units.specs.declared.Net.{Net}
use Rattle.units.specs.Amounts.{net, balance}
use Rattle.book_records.specs.declared.User.{User}

-- ---- bytes to the rules

-- a signed amount of 32 bits for each area, from an offset
unfoldable pub amounts_at : ℕ → List ℕ → PerArea
amounts_at at c =
    record { pvb = signed_of 32 (field 4 at c); tvb = signed_of 32 (field 4 (at + 4) c); avb = signed_of 32 (field 4 (at + 8) c) }

-- "three 32-bit manager ids, one per area", from an offset
unfoldable pub managers_at : ℕ → List ℕ → Managers
managers_at at c = record { pvb = field 4 at c; tvb = field 4 (at + 4) c; avb = field 4 (at + 8) c }

-- the user that a record holds; one of 56 bytes ends before the managers, so that these read 0
unfoldable pub user_of : List ℕ → model.User
user_of c =
    record {
      party = record {
        id = field 4 0 c;
        role = field 1 4 c;
        charges = signed_of 64 (field 8 32 c);
        assigned = field 8 40 c;
        managers = managers_at 56 c;
      };
      physical = amounts_at 8 c;
      position = amounts_at 20 c;
      blocked = field 8 48 c;
    }

-- "three zero bytes", as one number
unfoldable pub user_zeros : List ℕ → ℕ
user_zeros c = field 3 5 c

-- ---- the rules to bytes

unfoldable pub amount_widths : List ℕ
amount_widths = 4 ∷ 4 ∷ 4 ∷ []

unfoldable pub amount_values : PerArea → List ℕ
amount_values v = bits_of 32 v.pvb ∷ bits_of 32 v.tvb ∷ bits_of 32 v.avb ∷ []

-- id, role, three zero bytes, physical entry per area, position per area, charges, assigned, blocked
unfoldable pub user_widths : List ℕ
user_widths = 4 ∷ 1 ∷ 3 ∷ (amount_widths ++ (amount_widths ++ (8 ∷ 8 ∷ 8 ∷ [])))

unfoldable pub user_values : model.User → List ℕ
user_values u =
    u.party.id
    ∷ u.party.role
    ∷ 0
    ∷ (amount_values u.physical
    ++ (amount_values u.position ++ (bits_of 64 u.party.charges ∷ u.party.assigned ∷ u.blocked ∷ [])))

-- a user's 56 bytes, without its managers
unfoldable pub user_bytes : model.User → List ℕ
user_bytes u = pack user_widths (user_values u)

unfoldable pub manager_widths : List ℕ
manager_widths = 4 ∷ 4 ∷ 4 ∷ []

unfoldable pub manager_values : Managers → List ℕ
manager_values ms = ms.pvb ∷ ms.tvb ∷ ms.avb ∷ []

-- the 12 bytes of managers
unfoldable pub manager_bytes : Managers → List ℕ
manager_bytes ms = pack manager_widths (manager_values ms)

-- "A record is then 68 bytes": by whether the version has managers
unfoldable pub record_size : Bool → ℕ
record_size managed = cond managed 68 56

-- a user's record
unfoldable pub record_bytes : Bool → model.User → List ℕ
record_bytes managed u = user_bytes u ++ cond managed (manager_bytes u.party.managers) []

-- ---- the code's struct

-- an array of three signed amounts
unfoldable pub as_amounts : List Net → PerArea
as_amounts v =
    record {
      pvb = net (get_or v 0 (record { 0 = 0 }));
      tvb = net (get_or v 1 (record { 0 = 0 }));
      avb = net (get_or v 2 (record { 0 = 0 }));
    }

-- the user without its managers: what the first 56 bytes hold
unfoldable pub alone : model.User → model.User
alone u =
    record {
      party = record {
        id = u.party.id;
        role = u.party.role;
        charges = u.party.charges;
        assigned = u.party.assigned;
        managers = unmanaged;
      };
      physical = u.physical;
      position = u.position;
      blocked = u.blocked;
    }

-- the user of the rules that a struct is; its managers are kept apart
unfoldable pub as_user : User → model.User
as_user u =
    record {
      party = record { id = u.id; role = u.role; charges = balance u.charges; assigned = u.assigned.0; managers = unmanaged };
      physical = as_amounts u.physical;
      position = as_amounts u.position;
      blocked = u.blocked.0;
    }

-- the struct whose every field is 0
unfoldable pub blank_user : User
blank_user =
    record {
      id = 0;
      role = 0;
      physical = replicate 3 (record { 0 = 2 ^ 31 });
      position = replicate 3 (record { 0 = 2 ^ 31 });
      charges = record { 0 = 2 ^ 63 };
      assigned = record { 0 = 0 };
      blocked = record { 0 = 0 };
    }

-- ---- widths

-- an integer is one of w bits in two's complement
pub record FitsSigned (w : ℕ) (z : ℤ) : Type 0 where
  pub above : 2 * pos_part z < 2 ^ w
  pub below : 2 * neg_part z ≤ 2 ^ w

-- each of the three amounts fits its bytes
pub record FitsAmounts (v : PerArea) : Type 0 where
  pub pvb : FitsSigned 32 v.pvb
  pub tvb : FitsSigned 32 v.tvb
  pub avb : FitsSigned 32 v.avb

-- each manager id fits its bytes; where a record has none of them, it is 0
pub record FitsManagers (managed : Bool) (ms : Managers) : Type 0 where
  pub pvb : ms.pvb < cond managed (2 ^ 32) 1
  pub tvb : ms.tvb < cond managed (2 ^ 32) 1
  pub avb : ms.avb < cond managed (2 ^ 32) 1

-- each field of a user but its managers fits its bytes
pub record FitsUser (u : model.User) : Type 0 where
  pub id : u.party.id < 2 ^ 32
  pub role : u.party.role < 256
  pub physical : FitsAmounts u.physical
  pub position : FitsAmounts u.position
  pub charges : FitsSigned 64 u.party.charges
  pub assigned : u.party.assigned < 2 ^ 64
  pub blocked : u.blocked < 2 ^ 64

-- each field of a record fits its bytes
pub record FitsRecord (managed : Bool) (u : model.User) : Type 0 where
  pub user : FitsUser u
  pub managers : FitsManagers managed u.party.managers
