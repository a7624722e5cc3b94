use Rattle.base.specs.Basics.{◌≤◌}
use Rattle.cut_peaks.specs.Peaks.{Highest}
use Rattle.cut_peaks.proofs.highest.Given as goal

abbrev pub invariant-loop-i : goal.invariant-loop-i
invariant-loop-i l = (l.from ≤ l.i) × Highest l.rates l.standing l.areas l.from l.i l.most
