-- The number inside is compared with both ends of the range, shifted by the offset.
use Rattle.std.proofs.Common.{◌^◌, arith}
use Rattle.units.proofs.Amounts.{within_offset}
use Rattle.units.specs.Amounts.{net}
use Rattle.units.proofs.Net.is_entry.Goals as goal

pub returns : goal.returns
unfolding net
returns c = within_offset 1000000 (2 ^ 31) c.args.self.0 (omega arith)
