-- `lowered`: the difference of the bits goes round at 2^32. Assumes nothing.
use Rattle.cut_apply.proofs.Bits.{bits_fallen}
use Rattle.cut_apply.proofs.lowered.Goals as goal

pub returns : goal.returns
returns c = bits_fallen c.args.bits c.ranges.bits.fits c.args.energy c.ranges.energy.fits c.requires
