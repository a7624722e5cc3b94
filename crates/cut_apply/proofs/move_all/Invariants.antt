use Rattle.book_format.specs.Book.{book_of}
use Rattle.cut_apply.proofs.Loop.{MovedTo}
use Rattle.cut_apply.proofs.move_all.Given as goal

abbrev pub invariant-loop-k : goal.invariant-loop-k
invariant-loop-k l = MovedTo (book_of l.initial.book) l.origins l.cuts l.from l.to l.places l.amounts l.book l.lost l.k
