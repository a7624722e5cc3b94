use Rattle.book_questions.proofs.Asking.{UsersWalk}
use Rattle.book_questions.proofs.fields_valid.Given as goal

abbrev pub invariant-loop-i : goal.invariant-loop-i
invariant-loop-i l = UsersWalk l.s l.size 0 l.n l.ids l.last l.i
