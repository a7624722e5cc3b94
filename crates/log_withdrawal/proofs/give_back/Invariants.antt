use Rattle.base.specs.Basics.{◌≡◌, length}
use Rattle.book_format.specs.Book.{book_of}
use Rattle.log_questions.specs.Form.{cuts_from}
use Rattle.log_withdrawal.proofs.Back.{GivenTo}
use Rattle.log_withdrawal.proofs.give_back.Given as goal

abbrev pub invariant-loop-k : goal.invariant-loop-k
invariant-loop-k l = GivenTo (book_of l.initial.book) (cuts_from l.m 0 l.entry) l.book l.k × (length l.book ≡ length l.initial.book)
