-- `raise`: the bits of the position are read, raised and put back. Assumes nothing.
use Rattle.base.specs.Basics.{ap, arith, pos}
use Rattle.base.specs.Parts.{pos_part}
use Rattle.cut_apply.proofs.Positions.{fits_raised, position_is, position_moved}
use Rattle.cut_apply.proofs.raise.Goals as goal

pub raised-requires : goal.raised-requires
raised-requires c = omega (arith, c.requires.1, ap pos_part (position_is c.args.book.now c.requires.0 c.position_offset-at.ensures.0 c.get_u32-bits.ensures))

pub returns : goal.returns
returns c = let a = c.args in
    position_moved a.book.now c.requires.0 (pos a.energy) c.position_offset-at.ensures.0
    c.get_u32-bits.ensures c.raised.ensures c.put_u32.ensures
    (fits_raised a.book.now c.requires.0 a.energy c.requires.1)
