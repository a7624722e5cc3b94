-- `is_marked` looks at the mark only where there are bytes for it. Assumes nothing.
use borrow.Author.Tests.{lt-leb, le-leb}
use Rattle.book_format.specs.Book.{mark, mark_of}
use Rattle.book_format.specs.Questions.{marked}
use Rattle.book_header.proofs.is_marked.Goals as goal

pub returns-then-s-lt32 : goal.returns-then-s-lt32
unfolding marked
returns-then-s-lt32 c = simp (lt-leb _ _ c.if-s-lt32.true)

pub returns : goal.returns
unfolding marked mark mark_of
returns c = rw (c.get.ensures.0, le-leb _ _ c.if-s-lt32.false)
