-- `lower_sale`: with no cut, what stands stays. Assumes nothing.
use Rattle.base.specs.Basics.{◌≡◌, sym, ap, ◌∙◌, ℕ, ◌-◌, arith, get_or, set, set-get_or}
use Rattle.cut_tiers.proofs.lower_sale.Goals as goal

pub returns-else-cut-gt0 : goal.returns-else-cut-gt0
returns-else-cut-gt0 c = let a = c.args in
    let ns = a.standing.now in
    let e : get_or ns a.place 0 ≡ get_or ns a.place 0 - a.cut = omega (arith, c.if-cut-gt0.false) in
    sym (set-get_or ns a.place 0) ∙ ap (λ (n : ℕ). set ns a.place n) e
