-- `fill_part` lends the part to `fill`. Assumes nothing.
use Rattle.base.specs.Basics.{◌-◌, arith}
use Rattle.book_image.proofs.Filled.{part_filled}
use Rattle.book_image.proofs.fill_part.Goals as goal

pub returns : goal.returns
returns c = part_filled c.args.image.now c.args.at (c.args.end - c.args.at) c.fill.new.out c.args.front.now (omega (arith, c.requires)) c.requires.2 c.fill.ensures
