-- `fit_each`: the records that are left give all. Assumes nothing.
use Rattle.base.specs.Basics.{◌+◌, ◌*◌, ◌≤◌, mul-suc, mul-le-mul_left, arith, length}
use Rattle.book_image.proofs.Fitted.{fitting_start, fitting_turn, fitting_end}
use Rattle.book_image.proofs.fit_each.Goals as goal
use Rattle.book_image.proofs.fit_each.Goals.{In-loop-i}

-- the record at i lies in both lists
from-lies : (c : goal.In-loop-i)
    → let a = c.args in
    a.from + a.size * c.loop-i.i + a.size ≤ length a.s.now
from-lies c = omega (arith, c.requires.0, mul-suc c.args.size c.loop-i.i, mul-le-mul_left c.args.size c.loop-i-test.true)

to-lies : (c : goal.In-loop-i)
    → let a = c.args in
    a.to + a.new_size * c.loop-i.i + a.new_size ≤ length c.loop-i.out
to-lies c = omega (arith, c.requires.1, c.loop-i.invariant.same, mul-suc c.args.new_size c.loop-i.i, mul-le-mul_left c.args.new_size c.loop-i-test.true)

pub loop-i-preserved : goal.loop-i-preserved
loop-i-preserved c = fitting_turn c.min-kept.ensures c.requires.0 c.loop-i.invariant c.loop-i-test.true c.fit_record.ensures

pub loop-i-init : goal.loop-i-init
loop-i-init c = fitting_start

pub overflow_mul-size : goal.overflow_mul-size
overflow_mul-size c = omega (arith, from-lies c)

pub overflow_add-from : goal.overflow_add-from
overflow_add-from c = omega (arith, from-lies c)

pub overflow_mul-new_size : goal.overflow_mul-new_size
overflow_mul-new_size c = omega (arith, to-lies (goal.at.overflow_mul-new_size c).In-loop-i)

pub overflow_add-to : goal.overflow_add-to
overflow_add-to c = omega (arith, to-lies (goal.at.overflow_add-to c).In-loop-i)

pub fit_record-requires : goal.fit_record-requires
fit_record-requires c = (omega (arith, from-lies (goal.at.fit_record-requires c).In-loop-i), to-lies (goal.at.fit_record-requires c).In-loop-i, omega arith)

pub shape_of-out : goal.shape_of-out
shape_of-out c = c.loop-i.invariant.same

pub returns : goal.returns
returns c = fitting_end c.loop-i.invariant c.loop-i-test.false
