-- It is what the number inside is above the offset.
use Rattle.std.proofs.Common.{arith}
use Rattle.units.proofs.Amounts.{pos_part-net}
use Rattle.units.proofs.Net.long.Goals as goal

pub returns-clause-result_value : goal.returns-clause-result_value
returns-clause-result_value c = omega (arith, pos_part-net c.args.self)
