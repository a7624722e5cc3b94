-- `lower`: the bits of the position are read, lowered and put back. Assumes nothing.
use Rattle.base.specs.Basics.{ap, arith, neg_ℤ, pos}
use Rattle.base.specs.Parts.{neg_part}
use Rattle.cut_apply.proofs.Positions.{fits_lowered, position_is, position_moved}
use Rattle.cut_apply.proofs.lower.Goals as goal

pub lowered-requires : goal.lowered-requires
lowered-requires c = omega (arith, c.requires.1, ap neg_part (position_is c.args.book.now c.requires.0 c.position_offset-at.ensures.0 c.get_u32-bits.ensures))

pub returns : goal.returns
returns c = let a = c.args in
    position_moved a.book.now c.requires.0 (neg_ℤ (pos a.energy))
    c.position_offset-at.ensures.0 c.get_u32-bits.ensures
    c.lowered.ensures c.put_u32.ensures (fits_lowered a.book.now c.requires.0 a.energy c.requires.1)
