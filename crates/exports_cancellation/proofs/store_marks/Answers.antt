-- `store_marks` stores the marks from the first up: what is left to store gives the whole. Assumes nothing.
use Rattle.base.specs.Basics.{sym, ◌∙◌, false, arith, get_or, length-map, get_or-map}
use Rattle.base.proofs.Storing.{storing_start, storing_next, storing_all}
use Rattle.exports_answers.specs.Numbers.{bit}
use Rattle.exports_answers.proofs.Bits.{cast_bit}
use Rattle.exports_cancellation.proofs.store_marks.Goals as goal

pub loop-i-init : goal.loop-i-init
loop-i-init c = storing_start _ 0 c.args.part.now

pub bounds-part-i : goal.bounds-part-i
bounds-part-i c = omega (arith, c.loop-i.invariant.long, c.requires)

pub loop-i-preserved : goal.loop-i-preserved
unfolding bit
loop-i-preserved c = let l = c.loop-i in
    let marks = c.args.marks in
    storing_next l.invariant _ 0 (omega (arith, c.well_formed, length-map marks bit, c.loop-i-test.true))
    (cast_bit (get_or marks l.i false) ∙ sym (get_or-map bit marks l.i false))

pub shape_of-part : goal.shape_of-part
shape_of-part c = c.loop-i.invariant.long

pub returns : goal.returns
returns c = let long = length-map c.args.marks bit in
    storing_all c.loop-i.invariant (omega (arith, c.requires, c.well_formed, long)) (omega (arith, c.well_formed, long, c.loop-i-test.false))
