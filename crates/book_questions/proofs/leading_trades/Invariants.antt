use Rattle.base.specs.Basics.{◌≤◌, take}
use Rattle.book_parties.specs.Ids.{trades_from}
use Rattle.book_questions.specs.Asked.{trade_among}
use Rattle.book_questions.proofs.Loops.{Led}
use Rattle.book_questions.proofs.leading_trades.Given as goal

abbrev pub invariant-loop-i : goal.invariant-loop-i
invariant-loop-i l = (l.i ≤ l.m) × Led (trade_among (take l.n l.ids)) (trades_from l.at l.m l.s) l.i
