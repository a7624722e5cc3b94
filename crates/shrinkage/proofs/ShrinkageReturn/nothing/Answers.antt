-- `ShrinkageReturn::nothing` has 0 in every field but the number. Assumes nothing.
use Rattle.base.specs.Basics.{refl}
use Rattle.shrinkage.specs.Answer.{kwh_of}
use Rattle.shrinkage.specs.Return.{nothing}
use Rattle.shrinkage.proofs.ShrinkageReturn.nothing.Goals as goal

pub returns : goal.returns
unfolding nothing kwh_of
returns c = refl
