-- `sum_at`: the element, which is low. Assumes nothing.
use Rattle.base.specs.Basics.{arith}
use Rattle.risk_user.proofs.sum_at.Goals as goal

pub returns : goal.returns
returns c = (c.energy.ensures, omega (arith, c.energy.ensures, c.requires.0.low c.args.k))
