-- `fill_guesses`: each guess is a place below n, before the first and after each that is filled in. Assumes nothing.
use Rattle.base.specs.Basics.{arith}
use Rattle.book_parties.proofs.Guesses.{guesses_more, guesses_none}
use Rattle.book_parties.proofs.fill_guesses.Goals as goal

pub loop-i-init : goal.loop-i-init
loop-i-init c = (omega arith, guesses_none c.requires.1 c.requires.2)

pub loop-i-preserved : goal.loop-i-preserved
loop-i-preserved c = (omega arith, guesses_more _ _ c.loop-i.invariant.1 c.slot_of.ensures (omega arith))
