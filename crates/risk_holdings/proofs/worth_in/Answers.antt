-- `worth_in` is `Price::worth` at the area's reference price. Assumes nothing.
use Rattle.base.specs.Basics.{ap, ◌∙◌, ℕ, ◌*◌, arith}
use Rattle.risk_holdings.proofs.worth_in.Goals as goal

pub returns : goal.returns
returns c = record { result_value = c.worth.ensures.result_value ∙ ap (λ (n : ℕ). c.args.energy.0 * n) c.reference_price.ensures.result_value; result_bound = omega arith }
