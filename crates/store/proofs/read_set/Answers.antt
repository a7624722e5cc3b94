-- `read_set` reads each field from its own offset. Assumes nothing.
use Rattle.base.specs.Basics.{rules}
use Rattle.store.specs.Store.{set_of}
use Rattle.store.specs.Asked.{as_set}
use Rattle.store.proofs.read_set.Goals as goal

pub returns : goal.returns
unfolding set_of as_set
returns c = search rules
