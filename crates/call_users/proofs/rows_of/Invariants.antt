use Rattle.book_format.specs.Book.{book_of}
use Rattle.units.specs.Limits.{as_limits}
use Rattle.call_users.proofs.Filled.{Filled}
use Rattle.call_users.proofs.rows_of.Given as goal

abbrev pub invariant-loop-i : goal.invariant-loop-i
invariant-loop-i l = Filled (as_limits l.limits) (book_of l.book) l.rows l.i
