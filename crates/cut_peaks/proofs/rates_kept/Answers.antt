-- `rates_kept`: by the tier. Assumes nothing.
use Rattle.base.specs.Basics.{refl, ◌∙◌, not}
use Rattle.units.specs.Prices.{as_prices}
use Rattle.cut_peaks.specs.Keeping.{short_of}
use Rattle.cut_peaks.proofs.Keeping.{rates_first, rates_second}
use Rattle.cut_peaks.proofs.rates_kept.Goals as goal

pub returns-then-kept : goal.returns-then-kept
returns-then-kept c = let a = c.args in
    c.rates_of.ensures (λ area. not (short_of a.kept area)) refl refl refl ∙ rates_second (as_prices a.prices) a.kept c.if-kept.true

pub returns-else-kept : goal.returns-else-kept
returns-else-kept c = let a = c.args in
    c.rates_of-else-kept.ensures (short_of a.kept) refl refl refl ∙ rates_first (as_prices a.prices) a.kept c.if-kept.false
