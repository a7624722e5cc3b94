-- `first_better`: none of the sets passed is better. Assumes nothing.
use Rattle.base.specs.Basics.{◌≡◌, true, false, ◌%◌, ◌+◌, get_or, rules}
use Rattle.std.proofs.lemmas.Iterator.{first_from_Range}
use Rattle.cut_sets.specs.Found.{smaller}
use Rattle.cut_sets.proofs.Counting.{first_sought}
use Rattle.cut_sets.proofs.first_better.Goals as goal

pub returns : goal.returns
returns c = let a = c.args in
    first_sought _ _ _ _ _ _ c.requires.inside c.find.result (first_from_Range _ _ _ _
    (λ k. smaller a.spare (a.base + get_or a.low.now (k % 256) 0) a.best ≡ true)
    (λ k. smaller a.spare (a.base + get_or a.low.now (k % 256) 0) a.best ≡ false)
    c.find.ensures.ran (λ x q k. search rules) (λ x q k. search rules))
