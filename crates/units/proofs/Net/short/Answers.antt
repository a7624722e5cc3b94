-- It is what the number inside is below the offset.
use Rattle.std.proofs.Common.{arith}
use Rattle.units.proofs.Amounts.{neg_part-net}
use Rattle.units.proofs.Net.short.Goals as goal

pub returns-clause-result_value : goal.returns-clause-result_value
returns-clause-result_value c = omega (arith, neg_part-net c.args.self)
