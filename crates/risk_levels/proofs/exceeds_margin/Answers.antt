-- `exceeds_margin` tests what the definition does. Assumes nothing.
use Rattle.base.specs.Basics.{ap, ◌∙◌, ℕ, ◌+◌, ltb}
use Rattle.rules.specs.Levels.{exceeds_its_margin}
use Rattle.risk_levels.proofs.exceeds_margin.Goals as goal

pub returns : goal.returns
unfolding exceeds_its_margin
returns c = λ u e.
    let a = c.args in
    c.exceeds.ensures
    ∙ ap (λ (n : ℕ). ltb n a.level.0) (c.plus.ensures ∙ ap (λ (n : ℕ). a.limits.margin.0 + n) e)
