-- `is_position` compares position + sold with physical + bought, both kept with the same offset. Assumes nothing.
use Rattle.units.specs.Amounts.{net}
use Rattle.book_sums.specs.Positions.{position_as}
use Rattle.book_sums.proofs.Positions.{eqb_position}
use Rattle.book_sums.proofs.is_position.Goals as goal

pub returns : goal.returns
unfolding position_as net
returns c = eqb_position c.args.position.0 c.args.physical.0 2147483648 c.args.bought c.args.sold
