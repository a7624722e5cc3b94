-- `total`: the sum of the worths passed. Assumes nothing.
use Rattle.base.specs.Basics.{rules}
use Rattle.std.proofs.lemmas.Iterator.{YieldsList-from_slice}
use Rattle.std.proofs.lemmas.Iterator.Consumers.{sum_from_yields_List}
use Rattle.cut_sets.proofs.Given.{total_is, total_fits}
use Rattle.cut_sets.proofs.total.Goals as goal

pub sum-requires-clause-fits : goal.sum-requires-clause-fits
sum-requires-clause-fits c = let h = total_fits c.requires in search rules

pub returns : goal.returns
returns c = total_is c.requires (sum_from_yields_List _ _ c.sum.ensures.ran (YieldsList-from_slice _ c.iter.ensures.rest))
