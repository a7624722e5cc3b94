-- `copy_marked` copies the header over the whole part, and sets the mark there. Assumes nothing.
use Rattle.base.specs.Basics.{ap, ◌∙◌}
use Rattle.fields.specs.Field.{set_field}
use Rattle.book_format.specs.Book.{mark}
use Rattle.book_image.proofs.copy_marked.Goals as goal

pub returns : goal.returns
unfolding mark
returns c = let a = c.args in
    c.put.ensures ∙ ap (set_field 3 0 mark) c.copy_from_slice.ensures.after
