-- `same`: what `==` of two slices computes is the comparison of the definitions. Assumes nothing.
use Rattle.base.specs.Basics.{◌∙◌}
use Rattle.log_bytes.proofs.Walks.{same_pointwise}
use Rattle.log_bytes.proofs.same.Goals as goal

pub returns : goal.returns
returns c = c.eq.ensures ∙ same_pointwise c.args.s.now c.args.t.now
