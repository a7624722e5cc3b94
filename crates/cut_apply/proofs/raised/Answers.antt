-- `raised`: the sum of the bits goes round at 2^32. Assumes nothing.
use Rattle.cut_apply.proofs.Bits.{bits_risen}
use Rattle.cut_apply.proofs.raised.Goals as goal

pub returns : goal.returns
returns c = bits_risen c.args.bits c.ranges.bits.fits c.args.energy c.ranges.energy.fits c.requires
