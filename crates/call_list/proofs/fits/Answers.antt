-- `fits` is question 15. Assumes nothing.
use Rattle.base.specs.Basics.{rules}
use Rattle.requests.specs.Request.{lines_fit}
use Rattle.call_list.proofs.fits.Goals as goal

pub returns : goal.returns
unfolding lines_fit
returns c = search rules
