-- `unmanaged`: the users that are left give the answer. Assumes nothing.
use Rattle.base.specs.Basics.{◌≡◌, ◌+◌, ◌*◌, arith}
use Rattle.call_versions.proofs.Kept.{walk_start, walk_turn, walk_stop, walk_end}
use Rattle.call_versions.proofs.unmanaged.Goals as goal

pub returns-then-not-pvb-tvb : goal.returns-then-not-pvb-tvb
returns-then-not-pvb-tvb c = walk_stop c.loop-i.invariant c.loop-i-test.true (rw (← c.get_u32-pvb.ensures, ← c.get_u32-tvb.ensures, ← c.get_u32-avb.ensures) c.if-not-pvb-tvb.true)

pub loop-i-preserved : goal.loop-i-preserved
loop-i-preserved c = let next : c.args.at + 68 * (c.loop-i.i + 1) ≡ c.args.at + 68 * c.loop-i.i + 68 = omega arith in
    rw next (walk_turn c.loop-i.invariant c.loop-i-test.true (rw (← c.get_u32-pvb.ensures, ← c.get_u32-tvb.ensures, ← c.get_u32-avb.ensures) c.if-not-pvb-tvb.false))

pub loop-i-init : goal.loop-i-init
loop-i-init c = let first : c.args.at + 68 * 0 ≡ c.args.at = omega arith in rw first walk_start

pub returns : goal.returns
returns c = walk_end c.loop-i.invariant c.loop-i-test.false
