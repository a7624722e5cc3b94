-- `lowered_at`: an area without a rate is not of the tier. Assumes nothing.
use Rattle.base.specs.Basics.{arith}
use Rattle.cut_peaks.proofs.Keeping.{lowered_there, not_lowered}
use Rattle.cut_peaks.proofs.peaks.lowered_at.Goals as goal

pub returns-else-rate-eq0 : goal.returns-else-rate-eq0
returns-else-rate-eq0 c = let a = c.args in lowered_there a.rate a.mwh _ (omega (arith, c.if-rate-eq0.false)) c.min.ensures

pub returns-then-rate-eq0 : goal.returns-then-rate-eq0
returns-then-rate-eq0 c = not_lowered c.args.rate _ _ c.if-rate-eq0.true
