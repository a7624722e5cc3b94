-- `write_prices` sets the five fields one after the other. Assumes nothing.
use mathlib.Core.Path.{◌∙◌}
use Rattle.fields.specs.Layout.{set_fields}
use Rattle.book_header.proofs.write_prices.Goals as goal

pub returns : goal.returns
unfolding set_fields
returns c = c.put_u32-5.ensures
    ∙ rw (c.put_u32-4.ensures, c.put_u32-3.ensures, c.put_u32-2.ensures, c.put_u32.ensures)
