use Rattle.book_parties.proofs.Search.{Left}
use Rattle.book_parties.proofs.place_of.Given as goal

abbrev pub invariant-loop-count : goal.invariant-loop-count
invariant-loop-count l = Left l.ids l.n l.id l.low l.count

abbrev pub decreases-loop-count : goal.decreases-loop-count
decreases-loop-count l = l.count
