-- Both numbers are 0, as in the rules.
use Rattle.std.proofs.Common.{refl}
use Rattle.rules.specs.Reduction.{nothing}
use Rattle.cut_worth.proofs.Tally.none.Goals as goal

pub returns-clause-result_value : goal.returns-clause-result_value
unfolding nothing
returns-clause-result_value c = refl
