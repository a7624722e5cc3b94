-- `in_tier`: an area without a rate is not of the tier. Assumes nothing.
use Rattle.base.specs.Basics.{sym, arith}
use Rattle.cut_shares.proofs.Ones.{counts_in, counts_out}
use Rattle.cut_peaks.proofs.peaks.in_tier.Goals as goal

pub returns-else-rate-eq0 : goal.returns-else-rate-eq0
returns-else-rate-eq0 c = let a = c.args in sym (counts_in a.rate a.mwh (omega (arith, c.if-rate-eq0.false)))

pub returns-then-rate-eq0 : goal.returns-then-rate-eq0
returns-then-rate-eq0 c = sym (counts_out _ _ c.if-rate-eq0.true)
