-- The limits of the rules that the code's limits are, and their range. Assumes nothing.
use Rattle.std.specs.Prelude.{◌≤◌}
use Rattle.rules.specs.Levels as rules
use Rattle.units.specs.declared.Limits.{Limits}

-- the same three numbers
abbrev pub as_limits : Limits → rules.Limits
as_limits l = record { flag_mwh = l.flag_mwh.0; margin = l.margin.0; floor = l.floor.0 }

-- a flag of at most 1,000,000 MWh, a margin and a floor of at most 10^12 cents
pub record LimitsInRange (l : rules.Limits) : Type 0 where
  pub flag_most : l.flag_mwh ≤ 1000000
  pub margin_most : l.margin ≤ 1000000000000
  pub floor_most : l.floor ≤ 1000000000000
