-- `worth_of`: the sum so far and the worth of what is left of the set give the whole. Assumes nothing.
use Rattle.base.specs.Basics.{◌≡◌, ap, arith, take}
use Rattle.cut_sets.specs.Sets.{worth_of_set}
use Rattle.cut_sets.proofs.Sets.{worth_empty}
use Rattle.cut_sets.proofs.Given.{bit_step, set_most}
use Rattle.cut_sets.proofs.worth_of.Goals as goal

pub loop-rest-smaller : goal.loop-rest-smaller
loop-rest-smaller c = omega (arith, (bit_step c.requires.0 c.loop-rest.i c.loop-rest.rest c.loop-rest.invariant.0 c.loop-rest-test.true c.loop-rest.invariant.1).0)

pub loop-rest-preserved : goal.loop-rest-preserved
loop-rest-preserved c = let step = bit_step c.requires.0 c.loop-rest.i c.loop-rest.rest c.loop-rest.invariant.0 c.loop-rest-test.true c.loop-rest.invariant.1 in
    (omega (arith, c.loop-rest.invariant.0), step.1, omega (arith, step.2, c.last_of-sum.ensures, c.loop-rest.invariant.2))

pub returns : goal.returns
returns c = let ws = take c.loop-rest.i c.args.worths.now in
    let none : c.loop-rest.rest ≡ 0 = omega arith in
    omega (arith, c.loop-rest.invariant.2, ap (worth_of_set ws) none, worth_empty ws)

pub loop-rest-init : goal.loop-rest-init
loop-rest-init c = (omega arith, c.requires.1, omega arith)

pub overflow_add-sum : goal.overflow_add-sum
overflow_add-sum c = let g = c.requires.0 in
    let step = bit_step g c.loop-rest.i c.loop-rest.rest c.loop-rest.invariant.0 c.loop-rest-test.true c.loop-rest.invariant.1 in
    record { fits = omega (arith, step.2, c.last_of-sum.ensures, c.loop-rest.invariant.2, set_most g c.args.set) }
