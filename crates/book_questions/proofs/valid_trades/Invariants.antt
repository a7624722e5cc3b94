use Rattle.base.specs.Basics.{take}
use Rattle.book_questions.proofs.Asking.{TradesWalk}
use Rattle.book_questions.proofs.valid_trades.Given as goal

abbrev pub invariant-loop-i : goal.invariant-loop-i
invariant-loop-i l = TradesWalk (take l.n l.ids) l.s l.at l.m l.sellers l.buyers l.sums l.i
