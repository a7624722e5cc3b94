-- The prices of the rules that the code's prices are, and their range. Assumes nothing.
use Rattle.std.specs.Prelude.{◌≤◌}
use Rattle.rules.specs.Areas as areas
use Rattle.units.specs.declared.Prices.{Prices}

-- the same seven numbers
abbrev pub as_prices : Prices → areas.Prices
as_prices f = record { p = f.p; q = f.q; l = f.l; x = f.x; i = f.i; s = f.s; u = f.u }

-- P and Q are 1 to 100,000, tolls and selling tariffs 0 to 100,000
pub record InRange (f : areas.Prices) : Type 0 where
  pub p_least : 1 ≤ f.p
  pub p_most : f.p ≤ 100000
  pub q_least : 1 ≤ f.q
  pub q_most : f.q ≤ 100000
  pub l_most : f.l ≤ 100000
  pub x_most : f.x ≤ 100000
  pub i_most : f.i ≤ 100000
  pub s_most : f.s ≤ 100000
  pub u_most : f.u ≤ 100000
