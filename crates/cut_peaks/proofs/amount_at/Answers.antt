-- `amount_at`: a sale whose area has no rate is not of the tier. Assumes nothing.
use Rattle.base.specs.Basics.{sym, ◌∙◌, arith, get_or}
use Rattle.cut_worth.specs.Rates.{rate_in}
use Rattle.cut_shares.proofs.Ones.{counts_in, counts_out}
use Rattle.cut_peaks.proofs.amount_at.Goals as goal

pub returns-else-rate_at-eq0 : goal.returns-else-rate_at-eq0
returns-else-rate_at-eq0 c = let a = c.args in
    sym (counts_in (rate_in a.rates.now (get_or a.areas.now a.i 0)) _ (omega (arith, c.rate_at.ensures, c.if-rate_at-eq0.false)))

pub returns-then-rate_at-eq0 : goal.returns-then-rate_at-eq0
returns-then-rate_at-eq0 c = sym (counts_out _ _ (sym c.rate_at.ensures ∙ c.if-rate_at-eq0.true))
