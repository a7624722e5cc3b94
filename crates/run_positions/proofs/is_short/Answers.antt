-- `is_short`: below 2^31. Assumes nothing.
use Rattle.run_positions.proofs.Filling.{short_is}
use Rattle.run_positions.proofs.is_short.Goals as goal

pub returns : goal.returns
returns c = short_is c.args.x
