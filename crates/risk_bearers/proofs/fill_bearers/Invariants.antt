use Rattle.book_format.specs.Book.{users_of}
use Rattle.risk_bearers.proofs.Table.{BearersTo}
use Rattle.risk_bearers.proofs.fill_bearers.Given as goal

abbrev pub invariant-loop-i : goal.invariant-loop-i
invariant-loop-i l = BearersTo (users_of l.book) l.i l.bearers
