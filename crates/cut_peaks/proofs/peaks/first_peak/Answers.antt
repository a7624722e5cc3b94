-- `first_peak`: no sale of the tier stands above the amounts of its areas. Assumes nothing.
use Rattle.cut_peaks.proofs.Cutting.{next_or_end}
use Rattle.cut_peaks.proofs.Keeping.{below_lowered, peaked_first, tier_highest}
use Rattle.cut_peaks.proofs.peaks.first_peak.Goals as goal

pub returns-in-Some : goal.returns-in-Some
returns-in-Some c = (peaked_first (tier_highest c.args.heights c.args.rates.now c.requires.0 c.requires.2 c.tier_height-height.ensures) c.in-Some.ensures.0, c.requires.2)

pub returns-in-Some-next_peak : goal.returns-in-Some-next_peak
returns-in-Some-next_peak c = let lower = c.lowered-lower in
    let below = below_lowered c.requires.0 c.requires.2 c.in_default.ensures lower.ensures in
    (peaked_first (tier_highest lower.result c.args.rates.now c.requires.0 below c.tier_height-below.ensures) c.in-Some-next_peak.ensures.0, below)

pub returns : goal.returns
returns c = let seen = c.heights_of-seen in
    let next = next_or_end c.next_peak-3.result c.next_peak-3.ensures c.unwrap_or-place.ensures in
    (peaked_first (tier_highest seen.result c.args.rates.now c.requires.0 seen.ensures c.tier_height-mwh.ensures) next, seen.ensures)
