use Rattle.base.specs.Basics.{get_or}
use Rattle.cut_sets.proofs.Marking.{Marking}
use Rattle.book_format.specs.Book.{book_of, users_of}
use Rattle.rules.specs.Book.{nobody}
use Rattle.rules.specs.Reduction.{eligible}
use Rattle.call_cancellation.proofs.marks_of.Given as goal

abbrev pub invariant-loop-i : goal.invariant-loop-i
invariant-loop-i l = Marking (eligible (book_of l.book) (get_or (users_of l.book) l.place nobody)) (book_of l.book).trades l.left l.marks l.rest l.i
