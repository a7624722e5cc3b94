-- `copy_records` copies the records over the whole part, and makes the field 0 in each of them there. Assumes nothing.
use Rattle.base.specs.Basics.{ap, ◌∙◌}
use Rattle.book_image.specs.Zeroed.{zeroed_records}
use Rattle.book_image.proofs.copy_records.Goals as goal

pub returns : goal.returns
returns c = let a = c.args in
    c.clear_fields.ensures ∙ ap (zeroed_records a.width a.offset a.size a.n) c.copy_from_slice.ensures.after
