-- `long_worth`: how long the position is, at the area's selling tariff. Assumes nothing.
use Rattle.base.specs.Basics.{ap₂, ◌∙◌, ℕ, ◌*◌, arith}
use Rattle.risk_holdings.proofs.long_worth.Goals as goal

pub returns : goal.returns
returns c = record { result_value = c.worth.ensures.result_value ∙ ap₂ (λ (m n : ℕ). m * n) c.long.ensures.result_value c.selling_tariff.ensures.result_value; result_bound = omega arith }
