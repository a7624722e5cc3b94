-- What is read of the user at a place: the money of its record, what it sold and bought from twelve sums for each place, and the position from three for each place. The
-- level, the flag and the target of these. Assumes nothing.
use Rattle.std.specs.Prelude.{◌≡◌, ◌+◌, ◌*◌, ◌-◌, ◌≤◌, ◌<◌, ◌^◌}
use Rattle.base.specs.Basics.{Bool, true, cond, List, [], ℕ, ℤ, pos, length, get_or}
use Rattle.book_format.specs.Book.{users_of}
use Rattle.rules.specs.Areas.{Prices}
use Rattle.rules.specs.Book.{at, PerArea, User, nobody}
use Rattle.rules.specs.Levels.{Limits, Holding, level_from, flagged_from, uncovered}
use Rattle.laws_sales.specs.Cover.{short_from}
use Rattle.units.specs.Amounts.{net}
use Rattle.units.specs.Prices.{InRange}
use Rattle.units.specs.Limits.{LimitsInRange}
use Rattle.risk_holdings.specs.declared.Holdings.{Holdings}
use Rattle.risk_holdings.specs.Holdings.{held_in, HoldingsWithin}

-- ---- what can be asked

-- limits and prices in range, and users whose blocked guarantee is
pub record DayOf (limits : Limits) (f : Prices) (s : List ℕ) : Type 0 where
  pub limits_in : LimitsInRange limits
  pub prices_in : InRange f
  pub blocked_most : (i : ℕ) → (get_or (users_of s) i nobody).blocked ≤ 1000000000000

-- the position that a number stands for: the number less 2^31
abbrev pub position_in : List ℕ → ℕ → ℕ → ℤ
position_in ps i area = net (record { 0 = get_or ps (3 * i + area) 0 })

-- three positions for each place
pub record PositionsOf (us : List User) (ps : List ℕ) : Type 0 where
  pub each : (i area : ℕ) → i < length us → area < 3 → position_in ps i area ≡ at (get_or us i nobody).position area

-- ---- what is read

-- the positions of the user at a place
abbrev pub positions_in : List ℕ → ℕ → PerArea
positions_in ps i = record { pvb = position_in ps i 0; tvb = position_in ps i 1; avb = position_in ps i 2 }

-- what the user at a place holds in an area, with its physical entry and position there
abbrev pub holding_by : List ℕ → ℕ → ℕ → ℤ → ℤ → Holding
holding_by sums i area physical position =
    record {
      physical = physical;
      position = position;
      sold = get_or sums (12 * i + area) 0;
      bought = get_or sums (12 * i + 6 + area) 0;
      sold_next = get_or sums (12 * i + 3 + area) 0;
      bought_next = get_or sums (12 * i + 9 + area) 0;
    }

-- what it holds in each area, none of it high
pub record HeldWith (sums : List ℕ) (i : ℕ) (physical position : PerArea) (h : Holdings) : Type 0 where
  pub each : (area : ℕ) → area < 3 → held_in h area ≡ holding_by sums i area (at physical area) (at position area)
  pub low : HoldingsWithin (2 ^ 40) h

-- the same with the positions of arrays; the afternoon reads no physical entry
unfoldable pub held_at : List ℕ → List ℕ → ℕ → ℕ → Holding
held_at sums ps i area = holding_by sums i area (pos 0) (position_in ps i area)

-- T where a shipper of this level, being called in, is short of cover; else 0
unfoldable pub target_of : Limits → User → ℕ → ℕ
target_of limits u level = cond (uncovered limits u level) (level - u.party.assigned) 0

module _ (limits : Limits) (f : Prices) (us : List User) where
  -- flagged, with the blocked guarantee of the users
  unfoldable pub flagged_at : List ℕ → ℕ → Bool
  flagged_at ps i = flagged_from limits f (get_or us i nobody) (held_at [] ps i)

  module _ (sums ps : List ℕ) (i : ℕ) where
    -- the afternoon level, with the money of the users
    unfoldable pub level_of_place : ℕ
    level_of_place = level_from limits f (get_or us i nobody) (held_at sums ps i)

    -- T where the user, being called in, is short of cover; else 0
    unfoldable pub target_of_place : ℕ
    target_of_place = cond (short_from limits f (get_or us i nobody) (held_at sums ps i) true) (level_of_place - (get_or us i nobody).party.assigned) 0
