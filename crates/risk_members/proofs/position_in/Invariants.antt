use Rattle.book_format.specs.Book.{users_of}
use Rattle.risk_members.specs.Sums.{SumTo}
use Rattle.risk_members.proofs.position_in.Given as goal

abbrev pub invariant-loop-i : goal.invariant-loop-i
invariant-loop-i l = SumTo (users_of l.book) l.id l.area (λ v. v.position) l.i l.position.0
