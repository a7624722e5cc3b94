-- `lowered`: area by area. Assumes nothing.
use Rattle.cut_peaks.proofs.Keeping.{lowered_each}
use Rattle.cut_peaks.proofs.peaks.lowered.Goals as goal

pub returns : goal.returns
returns c = lowered_each c.lowered_at.ensures c.lowered_at-2.ensures c.lowered_at-3.ensures
