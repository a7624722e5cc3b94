-- `copy_marked` copies the header over the whole part, and sets the mark there. Assumes nothing.
use Rattle.base.specs.Basics.{ap, ◌∙◌}
use Rattle.fields.specs.Field.{set_field}
use Rattle.book_columns.proofs.copy_marked.Goals as goal

pub returns : goal.returns
returns c = let a = c.args in
    c.put.ensures ∙ ap (set_field 3 0 a.mark) c.copy_from_slice.ensures.after
