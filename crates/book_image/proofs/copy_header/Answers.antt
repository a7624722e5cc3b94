-- `copy_header` copies the header's bytes with the mark over the front of the part. Assumes nothing.
use Rattle.base.specs.Basics.{sym, ◌∙◌, arith, take, length-take-le}
use Rattle.fields.specs.Field.{set_field}
use Rattle.fields.proofs.Field.{length-set_field}
use Rattle.book_format.specs.Book.{mark}
use Rattle.fields.proofs.Sets.{front_set}
use Rattle.book_image.proofs.copy_header.Goals as goal

pub copy_marked-requires : goal.copy_marked-requires
copy_marked-requires c = let s = length-take-le c.args.size c.args.s.now c.requires.1 in
    let out = length-take-le c.args.size c.args.out.now c.requires.2 in
    (out ∙ sym s, omega (arith, s, c.requires.0))

pub returns : goal.returns
unfolding mark
returns c = let size = c.args.size in
    let front = take size c.args.s.now in
    let l = length-set_field 3 0 mark front ∙ length-take-le size c.args.s.now c.requires.1 in
    front_set size c.args.out.now (set_field 3 0 mark front) l c.requires.2 c.copy_marked.ensures

pub slice_bounds-copy_marked-end : goal.slice_bounds-copy_marked-end
slice_bounds-copy_marked-end c = sym (length-take-le _ _ c.requires.1)

pub slice_bounds-copy_marked-end-3 : goal.slice_bounds-copy_marked-end-3
slice_bounds-copy_marked-end-3 c = sym (length-take-le _ _ c.requires.2)
