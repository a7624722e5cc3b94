use Rattle.base.specs.Basics.{◌-◌}
use Rattle.book_format.specs.Book.{users_of}
use Rattle.run_positions.proofs.Filling.{PlacedTo}
use Rattle.run_positions.proofs.fill_own.Given as goal

abbrev pub invariant-loop-i : goal.invariant-loop-i
invariant-loop-i l = PlacedTo (users_of l.book) l.i l.positions
