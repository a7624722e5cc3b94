-- The cut is added to the MWh, and its worth at the trade's tariff to the worth.
use Rattle.std.proofs.Common.{ap, ◌∙◌, ℕ, ◌+◌, ◌*◌}
use Rattle.base.specs.Basics.{ap₂}
use Rattle.rules.specs.Reduction.{tallied}
use Rattle.cut_worth.proofs.Tally.with.Goals as goal

pub returns-clause-result_value : goal.returns-clause-result_value
unfolding tallied
returns-clause-result_value c = λ f t e.
    ap₂ (λ (m n : ℕ). record { mwh = m; worth = n }) c.plus-self.ensures
    (c.plus-self-2.ensures
    ∙ ap (λ (n : ℕ). c.args.self.worth.0 + n) (c.worth-added.ensures.result_value ∙ ap (λ (p : ℕ). c.args.cut.0 * p) e))
