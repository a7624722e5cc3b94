-- `flagged` tests what the definition does. Assumes nothing.
use Rattle.base.specs.Basics.{ap, ap₂, ◌∙◌, ℕ, ◌+◌, ◌*◌, ltb}
use Rattle.risk_levels.proofs.flagged.Goals as goal

pub returns : goal.returns
returns c = λ u e.
    let a = c.args in
    c.exceeds.ensures
    ∙ ap₂ ltb
    (c.plus.ensures
    ∙ ap₂ (λ (m n : ℕ). m + n)
    (c.worth-allowed.ensures.result_value ∙ ap (λ (n : ℕ). a.limits.flag_mwh.0 * n) c.least_reference_price.ensures.result_value) e)
    c.exposure-short.ensures.result_value
