-- `rates_of`: the rate of each of the three areas. Assumes nothing.
use Rattle.cut_tiers.specs.Tiers.{rates_for}
use Rattle.cut_tiers.proofs.rates_of.Goals as goal

pub returns : goal.returns
unfolding rates_for Rattle.rules.specs.Areas.areas
returns c belongs p t a = rw (c.rate_in.ensures, c.rate_in-2.ensures, c.rate_in-3.ensures, p, t, a)
