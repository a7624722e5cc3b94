-- `fit` lends the part to `fill`. Assumes nothing.
use Rattle.book_image.proofs.Fitted.{part_fitted}
use Rattle.book_image.proofs.fit.Goals as goal

pub returns : goal.returns
returns c = let a = c.args in
    part_fitted a.s.now a.out.now a.from a.kept a.to a.size c.requires.0 c.requires.1 c.requires.2 c.fill.ensures
