use Rattle.book_format.specs.Book.{users_of}
use Rattle.risk_bearers.proofs.Table.{IdsTo}
use Rattle.risk_bearers.proofs.fill_ids.Given as goal

abbrev pub invariant-loop-i : goal.invariant-loop-i
invariant-loop-i l = IdsTo (users_of l.book) l.ids l.i
