-- `least_reference_price`: the lower of PVB's price and the lower of the other two. Assumes nothing.
use Rattle.rules.specs.Levels.{lowest_reference_price}
use Rattle.base.specs.Basics.{rules}
use Rattle.risk_levels.proofs.least_reference_price.Goals as goal

pub returns : goal.returns
unfolding lowest_reference_price
returns c = search rules
