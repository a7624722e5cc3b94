-- `tally_with`: no cut changes no tally. Assumes nothing.
use Rattle.base.specs.Basics.{sym, ap, ◌∙◌, arith}
use Rattle.cut_worth.specs.Tallies.{as_tally}
use Rattle.rules.specs.Areas.{tariff}
use Rattle.units.specs.Prices.{as_prices}
use Rattle.cut_tiers.proofs.Tallied.{tally_same}
use Rattle.cut_tiers.proofs.tally_with.Goals as goal

pub returns-then-cut-eq0 : goal.returns-then-cut-eq0
returns-then-cut-eq0 c = let a = c.args in
    record { result_value = (λ t e. tally_same (as_prices a.prices) t (as_tally a.tally) c.if-cut-eq0.true); mwh_bound = (omega arith, omega arith) }

pub returns-else-cut-eq0 : goal.returns-else-cut-eq0
returns-else-cut-eq0 c = let f = as_prices c.args.prices in
    record { result_value = (λ t e. c.with.ensures.result_value f t (c.tariff.ensures.result_value ∙ ap (tariff f) (sym e))); mwh_bound = c.with.ensures.mwh_bound_2 }
