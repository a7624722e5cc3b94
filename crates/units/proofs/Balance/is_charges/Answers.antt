-- The number inside is compared with both ends of the range, shifted by the offset.
use Rattle.std.proofs.Common.{◌^◌, arith}
use Rattle.units.proofs.Amounts.{within_offset}
use Rattle.units.specs.Amounts.{balance}
use Rattle.units.proofs.Balance.is_charges.Goals as goal

pub returns : goal.returns
unfolding balance
returns c = within_offset 1000000000000 (2 ^ 63) c.args.self.0 (omega arith)
