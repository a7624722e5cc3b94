-- `read_prices` reads each price from its own offset. Assumes nothing.
use Rattle.book_format.specs.Book.{prices_of}
use Rattle.book_header.proofs.read_prices.Goals as goal

pub returns : goal.returns
unfolding prices_of
returns c = rw (
  c.get_u32.ensures,
  c.get_u32-2.ensures,
  c.get_u32-3.ensures,
  c.get_u32-4.ensures,
  c.get_u32-5.ensures,
  c.selling_at.ensures,
  c.selling_at-2.ensures,
)
