use Rattle.base.specs.Basics.{◌+◌, ◌*◌}
use Rattle.call_versions.proofs.Kept.{Walk}
use Rattle.call_versions.proofs.unmanaged.Given as goal

abbrev pub invariant-loop-i : goal.invariant-loop-i
invariant-loop-i l = Walk l.s l.at l.n l.i (l.at + 68 * l.i)
