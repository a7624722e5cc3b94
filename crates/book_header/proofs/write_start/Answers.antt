-- `write_start` sets the first five fields one after the other. Assumes nothing.
use mathlib.Core.Path.{◌∙◌}
use Rattle.fields.specs.Layout.{set_fields}
use Rattle.book_format.specs.Book.{mark}
use Rattle.book_header.proofs.write_start.Goals as goal

pub returns : goal.returns
unfolding set_fields mark
returns c = c.put_u32.ensures
    ∙ rw (c.put_u16-2.ensures, c.put_u8.ensures, c.put_u16.ensures, c.put.ensures)
