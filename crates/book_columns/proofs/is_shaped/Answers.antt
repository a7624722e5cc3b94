-- `is_shaped` looks at the header only where there are bytes for it, and tests in the order of the definition. Assumes nothing.
use Rattle.base.specs.Basics.{lt-leb, le-leb}
use Rattle.book_format.specs.Book.{length_of, mark_of}
use Rattle.book_format.specs.Questions.{sized, versioned}
use Rattle.book_columns.specs.Form.{form_mark, shaped}
use Rattle.book_columns.proofs.is_shaped.Goals as goal

pub returns-then-f-lt32 : goal.returns-then-f-lt32
unfolding shaped
returns-then-f-lt32 c = simp (lt-leb _ _ c.if-f-lt32.true)

pub returns : goal.returns
unfolding shaped form_mark mark_of versioned sized length_of
returns c = rw (c.book_length-size.ensures, c.is_known-known.ensures, c.trade_count-m.ensures, c.user_count-n.ensures, c.version-version.ensures, c.get-mark.ensures.0, le-leb _ _ c.if-f-lt32.false)
