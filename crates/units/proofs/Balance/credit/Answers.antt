-- It is what the number inside is below the offset.
use Rattle.std.proofs.Common.{arith}
use Rattle.units.proofs.Amounts.{neg_part-balance}
use Rattle.units.proofs.Balance.credit.Goals as goal

pub returns-clause-result_value : goal.returns-clause-result_value
returns-clause-result_value c = omega (arith, neg_part-balance c.args.self)
