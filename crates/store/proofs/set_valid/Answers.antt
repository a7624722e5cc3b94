-- `set_valid` joins what the calendar answers with the ranges of the figures. Assumes nothing.
use Rattle.store.specs.Store.{limits_valid, set_is_valid}
use Rattle.store.specs.Asked.{as_set}
use Rattle.store.proofs.set_valid.Goals as goal

pub returns : goal.returns
unfolding set_is_valid limits_valid as_set
returns c = rw c.is_real_day-day.ensures
