use Rattle.book_format.specs.Book.{book_of}
use Rattle.units.specs.Limits.{as_limits}
use Rattle.run_targets.proofs.First.{FilledTo}
use Rattle.run_targets.proofs.fill_targets.Given as goal

abbrev pub invariant-loop-i : goal.invariant-loop-i
invariant-loop-i l = FilledTo (as_limits l.day.limits) (book_of l.book) l.i l.targets l.eligible
