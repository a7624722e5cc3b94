-- `any_left`: what is left has the whole answer. Assumes nothing.
use Rattle.base.specs.Basics.{refl, arith}
use Rattle.run_targets.proofs.Looking.{left_found, left_more, left_none}
use Rattle.run_targets.proofs.any_left.Goals as goal

pub loop-i-init : goal.loop-i-init
loop-i-init c = refl

pub returns-then-standing-i-gt0 : goal.returns-then-standing-i-gt0
returns-then-standing-i-gt0 c = let a = c.args in
    left_found a.standing.now a.from a.to (omega (arith, c.requires)) c.loop-i-test.true c.loop-i.invariant c.if-standing-i-gt0.true

pub loop-i-preserved : goal.loop-i-preserved
loop-i-preserved c = let a = c.args in
    left_more a.standing.now a.from a.to (omega (arith, c.requires)) c.loop-i-test.true c.loop-i.invariant c.if-standing-i-gt0.false

pub returns : goal.returns
returns c = let a = c.args in
    left_none a.standing.now a.from a.to (omega (arith, c.requires)) c.loop-i-test.false c.loop-i.invariant
