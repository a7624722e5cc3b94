-- `short_worth`: how short the position is, at the area's reference price. Assumes nothing.
use Rattle.base.specs.Basics.{ap, ◌∙◌, ℕ, ◌*◌}
use Rattle.rules.specs.Areas.{reference_price_of}
use Rattle.units.specs.Prices.{as_prices}
use Rattle.risk_holdings.proofs.short_worth.Goals as goal

pub returns : goal.returns
returns c = let a = c.args in
    record { result_value = c.worth_in.ensures.result_value ∙ ap (λ (n : ℕ). n * reference_price_of (as_prices a.prices) a.area) c.short.ensures.result_value; result_bound = c.worth_in.ensures.result_bound }
