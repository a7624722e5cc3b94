-- `fill` copies the bytes to the front of the part and clears what is behind them. Assumes nothing.
use Rattle.base.specs.Basics.{sym, ◌∙◌, arith, take, length, length-take, length-take-le}
use Rattle.fields.proofs.Sets.{all_copied, front_filled}
use Rattle.book_image.specs.Image.{padded}
use Rattle.book_image.proofs.fill.Goals as goal

pub returns : goal.returns
unfolding padded
returns c = front_filled c.args.front.now c.args.out.now c.copy_from_slice.new.self c.fill.new.self 0 c.requires
    (c.copy_from_slice.ensures.after ∙ sym (all_copied c.args.front.now (take (length c.args.front.now) c.args.out.now) (length-take-le (length c.args.front.now) c.args.out.now c.requires))) (c.fill.ensures.after (λ y e. e))

pub slice_bounds-copy_from_slice-end-2 : goal.slice_bounds-copy_from_slice-end-2
slice_bounds-copy_from_slice-end-2 c = sym (length-take-le _ _ c.requires)

pub copy_from_slice-requires : goal.copy_from_slice-requires
copy_from_slice-requires c = rw length-take (omega (arith, c.requires))
