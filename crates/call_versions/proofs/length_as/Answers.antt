-- `length_as` takes the counts of the book. Assumes nothing.
use Rattle.call_versions.proofs.length_as.Goals as goal

pub returns : goal.returns
returns c = rw (c.book_length.ensures, c.trade_count-m.ensures, c.user_count-n.ensures)
