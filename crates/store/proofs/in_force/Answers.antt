-- `in_force`: none of the sets that are passed, from the last one down, has begun, until one has or none is left. Assumes nothing.
use Rattle.base.specs.Basics.{refl, arith}
use Rattle.store.specs.Asked.{as_set}
use Rattle.store.proofs.Sets.{later_start, later_yes, later_no, later_end}
use Rattle.store.proofs.Ways.{force_found, force_none}
use Rattle.store.proofs.in_force.Goals as goal

pub returns-then-p-date : goal.returns-then-p-date
unfolding as_set
returns-then-p-date c = force_found (later_yes c.loop-i.invariant (omega arith) refl c.read_set-p.ensures c.if-p-date.true) refl refl

pub loop-i-preserved : goal.loop-i-preserved
unfolding as_set
loop-i-preserved c = later_no c.loop-i.invariant (omega arith) refl c.read_set-p.ensures c.if-p-date.false

pub returns : goal.returns
returns c = force_none (later_end c.loop-i.invariant (omega arith)) refl refl

pub loop-i-init : goal.loop-i-init
loop-i-init c = later_start
