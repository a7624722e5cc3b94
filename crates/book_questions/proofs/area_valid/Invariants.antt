use Rattle.book_parties.specs.Ids.{users_from}
use Rattle.book_sums.proofs.Walk.{Passed}
use Rattle.book_questions.specs.Asked.{manager_given}
use Rattle.book_questions.proofs.area_valid.Given as goal

abbrev pub invariant-loop-i : goal.invariant-loop-i
invariant-loop-i l = Passed (manager_given (users_from 68 0 l.n l.s) l.area) (users_from 68 0 l.n l.s) l.i
