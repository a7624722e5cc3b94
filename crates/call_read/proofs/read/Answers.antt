-- `read` asks, and reads bytes that pass every question, which are of the right form. Assumes nothing.
use Rattle.base.specs.Basics.{sym}
use Rattle.book_format.proofs.Passed.{passed}
use Rattle.rights.proofs.Entered.{entering_book}
use Rattle.call_read.proofs.read.Goals as goal

pub read_book-requires : goal.read_book-requires
read_book-requires c = (passed c.args.bytes.now (entering_book _ _ _ (sym c.in_ok-ask.ensures.value))).form
