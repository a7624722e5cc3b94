-- `put_cuts`: the cuts that are left, written, give the whole entry. Assumes nothing.
use Rattle.base.specs.Basics.{arith}
use Rattle.log_entries.proofs.Cuts.{put_start, put_next, put_end}
use Rattle.log_entries.proofs.put_cuts.Goals as goal

pub overflow_cast-cuts : goal.overflow_cast-cuts
overflow_cast-cuts c = omega (arith, c.requires.1.small c.loop-k.k c.loop-k.invariant.above c.loop-k-test.true)

pub put_u32-requires : goal.put_u32-requires
put_u32-requires c = omega (arith, c.index-place.ensures.1, c.loop-k.invariant.long, c.requires.0)

pub loop-k-preserved : goal.loop-k-preserved
loop-k-preserved c = put_next c.requires.1 c.loop-k.invariant c.loop-k-test.true c.index-place.ensures.0
    c.put_u32.ensures

pub loop-k-init : goal.loop-k-init
loop-k-init c = put_start c.requires.1

pub bounds-origins-k : goal.bounds-origins-k
bounds-origins-k c = omega (arith, c.requires.1.few)

pub overflow_mul-place : goal.overflow_mul-place
overflow_mul-place c = omega (arith, c.index-place.ensures.1)

pub offset_bounds-cuts-k : goal.offset_bounds-cuts-k
offset_bounds-cuts-k c = omega (arith, c.requires.1.few)

pub bounds-cuts-k : goal.bounds-cuts-k
bounds-cuts-k c = omega (arith, c.requires.1.few)

pub shape_of-entry : goal.shape_of-entry
shape_of-entry c = c.loop-k.invariant.long

pub returns : goal.returns
returns c = put_end c.requires.1 c.loop-k.invariant c.loop-k-test.false
