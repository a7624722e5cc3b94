-- The integers that the code's signed amounts stand for. Assumes nothing.
use Rattle.std.specs.Prelude.{◌^◌}
use Rattle.base.specs.Basics.{ℤ, sub_ℕ}
use Rattle.units.specs.declared.Net.{Net}
use Rattle.units.specs.declared.Balance.{Balance}

-- an energy in MWh with a sign: kept as the energy + 2^31
unfoldable pub net : Net → ℤ
net x = sub_ℕ x.0 (2 ^ 31)

-- money in cents with a sign: kept as the money + 2^63
unfoldable pub balance : Balance → ℤ
balance x = sub_ℕ x.0 (2 ^ 63)
