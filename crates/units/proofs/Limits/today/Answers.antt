-- The three figures are those of the rules.
use Rattle.std.proofs.Common.{refl}
use Rattle.rules.specs.Levels.{today}
use Rattle.units.proofs.Limits.today.Goals as goal

pub returns-clause-result_value : goal.returns-clause-result_value
unfolding today
returns-clause-result_value c = refl
