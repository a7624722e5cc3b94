-- The holdings of the rules that the code's structs are. Assumes nothing.
use Rattle.std.specs.Prelude.{◌≤◌}
use Rattle.base.specs.Basics.{List, ℕ, zero, suc, pos}
use Rattle.rules.specs.Book.{at}
use Rattle.rules.specs.Levels as rules
use Rattle.units.specs.Amounts.{net}
use Rattle.units.specs.declared.Net.{Net}
use Rattle.book_records.specs.User.{as_amounts}
use Rattle.risk_holdings.specs.declared.Holding.{Holding}
use Rattle.risk_holdings.specs.declared.Holdings.{Holdings}

-- in an area
unfoldable pub as_holding : Holding → rules.Holding
as_holding h =
    record {
      physical = net h.physical;
      position = net h.position;
      sold = h.sold.0;
      bought = h.bought.0;
      sold_next = h.sold_next.0;
      bought_next = h.bought_next.0;
    }

-- nothing sold or bought is above `most`
pub record HoldingWithin (most : ℕ) (h : Holding) : Type 0 where
  pub sold : h.sold.0 ≤ most
  pub bought : h.bought.0 ≤ most
  pub sold_next_lem : h.sold_next.0 ≤ most
  pub bought_next_lem : h.bought_next.0 ≤ most

-- in each area: 0 PVB, 1 TVB, any other AVB
unfoldable pub held_in : Holdings → ℕ → rules.Holding
held_in h zero = as_holding h.pvb
held_in h (suc zero) = as_holding h.tvb
held_in h (suc (suc area)) = as_holding h.avb

-- nothing sold or bought in any area is above `most`
pub record HoldingsWithin (most : ℕ) (h : Holdings) : Type 0 where
  pub pvb : HoldingWithin most h.pvb
  pub tvb : HoldingWithin most h.tvb
  pub avb : HoldingWithin most h.avb

-- positions alone, with no physical entry and nothing sold or bought: all that exposure reads
unfoldable pub positioned : List Net → ℕ → rules.Holding
positioned v area =
    record { physical = pos 0; position = at (as_amounts v) area; sold = 0; bought = 0; sold_next = 0; bought_next = 0 }
