-- `heights_of`: each sale is one of an area. Assumes nothing.
use Rattle.cut_peaks.proofs.Keeping.{below_seen}
use Rattle.cut_peaks.proofs.peaks.heights_of.Goals as goal

pub returns : goal.returns
returns c = below_seen c.requires c.highest-pvb.ensures c.highest-tvb.ensures c.highest-avb.ensures
