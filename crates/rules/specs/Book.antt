-- Document 01, "The book in bytes": the fields of a book, and the position as it is defined. Amounts without a sign are naturals, those with a sign integers.
use Rattle.std.specs.Prelude.{◌&&◌, ◌∷◌, ◌+ℤ◌, ◌-ℤ◌}
use Rattle.base.specs.Basics.{Bool, cond, List, [], ℕ, zero, suc, eqb, ℤ, pos}
use Rattle.base.specs.Sums.{sum}
use Rattle.rules.specs.Areas.{Prices}

-- ---- fields; what no call changes stands together

-- Header: version, date, prices and tolls.
pub record Header : Type 0 where
  pub version : ℕ
  pub date : ℕ
  pub prices : Prices

-- a signed amount for each area
pub record PerArea : Type 0 where
  pub pvb : ℤ
  pub tvb : ℤ
  pub avb : ℤ

-- the amount of an area
unfoldable pub at : PerArea → ℕ → ℤ
at v zero = v.pvb
at v (suc zero) = v.tvb
at v (suc (suc area)) = v.avb

-- "three 32-bit manager ids, one per area, 0 for none" (document 02, ask 5); all 0 in a version that has none
pub record Managers : Type 0 where
  pub pvb : ℕ
  pub tvb : ℕ
  pub avb : ℕ

-- the manager's id in an area
unfoldable pub manager_in : Managers → ℕ → ℕ
manager_in ms zero = ms.pvb
manager_in ms (suc zero) = ms.tvb
manager_in ms (suc (suc area)) = ms.avb

-- User: id, role (0 shipper, 1 clearing house), charges, assigned guarantee and managers, which no call changes.
pub record Party : Type 0 where
  pub id : ℕ
  pub role : ℕ
  pub charges : ℤ
  pub assigned : ℕ
  pub managers : Managers

-- User: beside these the physical entry and the position per area and the blocked guarantee.
pub record User : Type 0 where
  pub party : Party
  pub physical : PerArea
  pub position : PerArea
  pub blocked : ℕ

-- Trade: seller and buyer id, area, kind (0 bilateral, 1 platform, 2 central counterparty), day (0 for d, 1 for d+1) and notified MWh, which no call changes.
pub record Terms : Type 0 where
  pub seller : ℕ
  pub buyer : ℕ
  pub area : ℕ
  pub kind : ℕ
  pub day : ℕ
  pub notified : ℕ

-- Trade: beside these the MWh that stand.
pub record Trade : Type 0 where
  pub terms : Terms
  pub standing : ℕ

pub record Book : Type 0 where
  pub header : Header
  pub users : List User
  pub trades : List Trade

-- ---- sold, bought, position

-- the trades that can be cut at all: "kind and day are 0"
unfoldable pub bilateral_for_day : Trade → Bool
bilateral_for_day t = eqb t.terms.kind 0 && eqb t.terms.day 0

-- what stands, of all kinds, in an area for a day in the trades whose party on one side passes a test
unfoldable pub dealt : (Terms → ℕ) → (ℕ → Bool) → List Trade → ℕ → ℕ → ℕ
dealt side counts ts area day =
    sum (λ t. cond (counts (side t.terms)) (cond (eqb t.terms.area area && eqb t.terms.day day) t.standing 0) 0) ts

-- what a user sold in an area for a day
unfoldable pub sold : List Trade → ℕ → ℕ → ℕ → ℕ
sold ts id area day = dealt (λ r. r.seller) (λ party. eqb party id) ts area day

-- what a user bought in an area for a day
unfoldable pub bought : List Trade → ℕ → ℕ → ℕ → ℕ
bought ts id area day = dealt (λ r. r.buyer) (λ party. eqb party id) ts area day

-- "Position = physical + standing bought for d − standing sold for d, all kinds."
unfoldable pub defined_position : List Trade → User → ℕ → ℤ
defined_position ts u area =
    at u.physical area +ℤ pos (bought ts u.party.id area 0) -ℤ pos (sold ts u.party.id area 0)

-- ---- users by id

-- the trade whose every field is 0
abbrev pub no_trade : Trade
no_trade = record { terms = record { seller = 0; buyer = 0; area = 0; kind = 0; day = 0; notified = 0 }; standing = 0 }

-- no manager in any area
abbrev pub unmanaged : Managers
unmanaged = record { pvb = 0; tvb = 0; avb = 0 }

-- the user whose every field is 0
unfoldable pub nobody : User
nobody =
    let none : PerArea = record { pvb = pos 0; tvb = pos 0; avb = pos 0 } in
    record {
      party = record { id = 0; role = 0; charges = pos 0; assigned = 0; managers = unmanaged };
      physical = none;
      position = none;
      blocked = 0;
    }

-- the user of an id; `nobody` where there is none
unfoldable pub find : List User → ℕ → User
find [] id = nobody
find (u ∷ us) id = cond (eqb u.party.id id) u (find us id)
