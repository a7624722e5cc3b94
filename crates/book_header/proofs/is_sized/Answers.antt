-- `is_sized` tests the counts and the length in the order of the definition. Assumes nothing.
use Rattle.book_format.specs.Book.{length_of}
use Rattle.book_format.specs.Questions.{sized}
use Rattle.book_header.proofs.is_sized.Goals as goal

pub returns : goal.returns
unfolding sized length_of
returns c = rw (c.book_length.ensures, c.version.ensures, c.trade_count-m.ensures, c.user_count-n.ensures)
