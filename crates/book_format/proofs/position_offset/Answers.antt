-- `position_offset`: the user's bytes, and what comes before the position in them. Assumes nothing.
use Rattle.base.specs.Basics.{rules}
use Rattle.book_format.specs.Places.{position_at}
use Rattle.book_format.proofs.position_offset.Goals as goal

pub returns : goal.returns
unfolding position_at
returns c = search rules
