-- `store_days` stores the days from the first up: what is left to store gives the whole. Assumes nothing.
use Rattle.base.specs.Basics.{sym, arith, length-map, get_or-map}
use Rattle.shrinkage.specs.Answer.{kwh_of}
use Rattle.base.proofs.Storing.{storing_start, storing_next, storing_all}
use Rattle.exports_shrinkage.proofs.store_days.Goals as goal

pub loop-i-preserved : goal.loop-i-preserved
unfolding kwh_of
loop-i-preserved c = let l = c.loop-i in
    let days = c.args.days in
    storing_next l.invariant _ 0 (omega (arith, c.well_formed, length-map days (λ k. k.0))) (sym (get_or-map (λ k. k.0) days l.i (record { 0 = 0 })))

pub returns : goal.returns
unfolding kwh_of
returns c = storing_all c.loop-i.invariant (omega (arith, c.requires, c.well_formed, length-map c.args.days (λ k. k.0)))
    (omega (arith, c.well_formed, length-map c.args.days (λ k. k.0)))

pub loop-i-init : goal.loop-i-init
loop-i-init c = storing_start _ 0 c.args.answer.now

pub offset_bounds-days-i : goal.offset_bounds-days-i
offset_bounds-days-i c = omega arith

pub bounds-days-i : goal.bounds-days-i
bounds-days-i c = omega arith

pub offset_bounds-answer-i : goal.offset_bounds-answer-i
offset_bounds-answer-i c = omega arith

pub bounds-answer-i : goal.bounds-answer-i
bounds-answer-i c = omega (arith, c.loop-i.invariant.long, c.requires)

pub shape_of-answer : goal.shape_of-answer
shape_of-answer c = c.loop-i.invariant.long
