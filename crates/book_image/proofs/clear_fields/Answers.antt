-- `clear_fields`: the records that are left, cleared behind those that are, give all of them. Assumes nothing.
use Rattle.base.specs.Basics.{◌≡◌, ◌+◌, ◌*◌, ◌≤◌, arith, length, mul-suc, mul-zero}
use Rattle.book_image.proofs.Turns.{clearing_start, clearing_lies, clearing_turn, clearing_end}
use Rattle.book_image.proofs.clear_fields.Goals as goal
use Rattle.book_image.proofs.clear_fields.Goals.{In-loop-i}

-- the record at hand lies in the bytes
lies : (c : goal.In-loop-i) → c.args.size * c.loop-i.i + c.args.size ≤ length c.args.out.now
lies c = omega (arith, clearing_lies c.loop-i.invariant (omega (arith, c.loop-i-test.true)), c.loop-i.invariant.kept)

pub overflow_mul-size : goal.overflow_mul-size
overflow_mul-size c = omega (arith, lies (goal.at.overflow_mul-size c).In-loop-i, c.ranges)

pub overflow_add-size : goal.overflow_add-size
overflow_add-size c = omega (arith, lies (goal.at.overflow_add-size c).In-loop-i, c.requires.0, c.ranges)

pub put-requires : goal.put-requires
put-requires c = omega (arith, lies (goal.at.put-requires c).In-loop-i, c.loop-i.invariant.kept, c.requires.0)

pub loop-i-preserved : goal.loop-i-preserved
loop-i-preserved c = let next : c.args.size * (c.loop-i.i + 1) ≡ c.args.size * c.loop-i.i + c.args.size = omega (arith, mul-suc c.args.size c.loop-i.i) in
    rw next (clearing_turn c.requires.0 c.loop-i.invariant (omega (arith, c.loop-i-test.true)) c.put.ensures)

pub loop-i-init : goal.loop-i-init
loop-i-init c = rw mul-zero (clearing_start c.requires.1)

pub shape_of-out : goal.shape_of-out
shape_of-out c = c.loop-i.invariant.kept

pub returns : goal.returns
returns c = clearing_end c.loop-i.invariant (omega arith)
