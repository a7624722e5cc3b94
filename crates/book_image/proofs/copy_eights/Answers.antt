-- `copy_eights`: the numbers passed are copied. Assumes nothing.
use Rattle.base.specs.Basics.{◌+◌, ◌*◌, ◌≤◌, arith, length}
use Rattle.book_image.proofs.Fitted.{copying_end, copying_start, copying_turn}
use Rattle.book_image.proofs.copy_eights.Goals as goal
use Rattle.book_image.proofs.copy_eights.Goals.{In-loop-i}

-- the next number lies in both lists
from-lies : (c : goal.In-loop-i) → c.args.from + 8 * c.loop-i.i + 8 ≤ length c.args.s.now
from-lies c = omega (arith, c.requires.0, c.loop-i-test.true)

to-lies : (c : goal.In-loop-i) → c.args.to + 8 * c.loop-i.i + 8 ≤ length c.loop-i.out
to-lies c = omega (arith, c.requires.1, c.loop-i-test.true, c.loop-i.invariant.same)

pub loop-i-preserved : goal.loop-i-preserved
loop-i-preserved c = copying_turn (λ j. (c.type_inv.s j).fits) c.requires.0 c.loop-i.invariant c.loop-i-test.true c.get_u64.ensures c.put_u64.ensures

pub loop-i-init : goal.loop-i-init
loop-i-init c = copying_start

pub overflow_mul-i : goal.overflow_mul-i
overflow_mul-i c = omega (arith, to-lies (goal.at.overflow_mul-i c).In-loop-i)

pub overflow_add-to : goal.overflow_add-to
overflow_add-to c = omega (arith, to-lies (goal.at.overflow_add-to c).In-loop-i)

pub overflow_mul-i-in-loop-i : goal.overflow_mul-i-in-loop-i
overflow_mul-i-in-loop-i c = omega (arith, from-lies (goal.at.overflow_mul-i-in-loop-i c).In-loop-i)

pub overflow_add-from : goal.overflow_add-from
overflow_add-from c = omega (arith, from-lies (goal.at.overflow_add-from c).In-loop-i)

pub get_u64-requires : goal.get_u64-requires
get_u64-requires c = omega (arith, from-lies (goal.at.get_u64-requires c).In-loop-i)

pub put_u64-requires : goal.put_u64-requires
put_u64-requires c = omega (arith, to-lies (goal.at.put_u64-requires c).In-loop-i)

pub shape_of-out : goal.shape_of-out
shape_of-out c = c.loop-i.invariant.same

pub returns : goal.returns
returns c = copying_end c.loop-i.invariant (omega (arith, c.loop-i-test.false))
