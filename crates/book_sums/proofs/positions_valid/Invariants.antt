use Rattle.base.specs.Basics.{◌≡◌, List, ◌+◌, ◌*◌}
use Rattle.rules.specs.Book.{Trade}
use Rattle.rules.specs.Questions.{positions_are_valid}
use Rattle.book_parties.specs.Ids.{users_from}
use Rattle.book_sums.specs.Twelve.{TwelveOf}
use Rattle.book_sums.proofs.Walk.{Passed}
use Rattle.book_sums.proofs.positions_valid.Given as goal

abbrev pub invariant-loop-i : goal.invariant-loop-i
invariant-loop-i l = (l.a ≡ l.at + l.size * l.i) × ((ts : List Trade) → TwelveOf (users_from l.size l.at l.n l.s) ts l.sums → Passed (positions_are_valid ts) (users_from l.size l.at l.n l.s) l.i)
