-- `figures_on` takes today's figures where there is no store. Assumes nothing.
use Rattle.base.specs.Basics.{refl, rules}
use Rattle.store.proofs.Ways.{no_store}
use Rattle.store.proofs.figures_on.Goals as goal

pub returns-in-None : goal.returns-in-None
returns-in-None c = rw c.in-None.is (no_store refl (search rules))
