use Rattle.base.specs.Basics.{ℕ, ◌-◌}
use Rattle.cut_worth.specs.Rates.{Sales}
use Rattle.cut_peaks.proofs.Cutting.{Cutting}
use Rattle.cut_peaks.proofs.Sweeping.{Sweeping}
use Rattle.cut_peaks.specs.Peaks.{Peaked}
use Rattle.cut_peaks.proofs.peak_cuts.Given as goal

abbrev pub invariant-loop-lost : goal.invariant-loop-lost
invariant-loop-lost l = Cutting l.rates l.standing l.areas l.mwh l.place l.to l.cuts l.end
    × ((from : ℕ) → Sales l.standing l.areas from l.to → Peaked l.rates l.standing l.areas from l.to l.place l.mwh → Sweeping l.rates l.standing l.areas from l.to l.asked l.mwh l.initial.cuts l.cuts l.lost l.end)

abbrev pub decreases-loop-lost : goal.decreases-loop-lost
decreases-loop-lost l = l.to - l.end
