use Rattle.base.specs.Basics.{drop, take}
use Rattle.book_format.specs.Book.{trades_of}
use Rattle.log_bytes.proofs.Walks.{Answering}
use Rattle.log_format.specs.Fits.{raises_within}
use Rattle.log_questions.proofs.are_within.Given as goal

abbrev pub invariant-loop-k : goal.invariant-loop-k
invariant-loop-k l = Answering l.so_far (raises_within (drop l.k (take l.m l.sums)) (drop l.k (trades_of l.book))) (raises_within (take l.m l.sums) (trades_of l.book))
