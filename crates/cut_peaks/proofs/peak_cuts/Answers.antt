-- `peak_cuts`: each cut is a turn of the tier's shares. Assumes nothing.
use Rattle.base.specs.Basics.{arith}
use Rattle.cut_worth.proofs.Rates.{sales_behind}
use Rattle.cut_peaks.proofs.Cutting.{cutting_end, cutting_more, cutting_start, next_or_end}
use Rattle.cut_peaks.proofs.Sweeping.{sweep_end, sweep_more, sweep_start}
use Rattle.cut_peaks.proofs.peak_cuts.Goals as goal

pub loop-lost-init : goal.loop-lost-init
loop-lost-init c = let q = c.requires.sales in
    let r = c.requires.highest in
    (cutting_start q.3 q.2 r.2, λ from s p. sweep_start s q.1 p r.1 q.2)

pub rate_at-lost-requires : goal.rate_at-lost-requires
rate_at-lost-requires c = let q = c.requires.sales.0 in
    (omega (arith, c.if-end-to.true, q.inside), q.area_most c.loop-lost.end c.loop-lost.invariant.0.starts (omega (arith, c.if-end-to.true)))

pub next_peak-requires : goal.next_peak-requires
next_peak-requires c = (sales_behind c.requires.sales.0 (omega (arith, c.loop-lost.invariant.0.starts)), omega (arith, c.if-end-to.true))

pub loop-lost-smaller : goal.loop-lost-smaller
loop-lost-smaller c = omega (arith, (next_or_end c.next_peak.result c.next_peak.ensures c.unwrap_or-end.ensures).starts, c.if-end-to.true)

pub loop-lost-preserved : goal.loop-lost-preserved
loop-lost-preserved c = let q = c.requires.sales in
    let r = c.requires.highest in
    let below = c.loop-lost-test.true in
    let inside = c.if-end-to.true in
    let next = next_or_end c.next_peak.result c.next_peak.ensures c.unwrap_or-end.ensures in
    let cut = c.loop-lost.invariant.0 in (
      cutting_more q.0.inside inside r.0 next cut,
      λ from s p.
          sweep_more s q.1 p r.1 q.2 (c.loop-lost.invariant.1 from s p) below (omega (arith, p.starts, cut.starts)) inside (cut.here inside) c.rate_at-lost.ensures next,
    )

pub returns-after-loop-lost : goal.returns-after-loop-lost
returns-after-loop-lost c = let q = c.requires.sales in
    let r = c.requires.highest in
    cutting_end c.loop-lost.invariant.0 (λ from s p. sweep_end s q.1 p r.1 q.2 (c.loop-lost.invariant.1 from s p) c.loop-lost.invariant.0.room)

pub returns-else-end-to : goal.returns-else-end-to
returns-else-end-to c = let q = c.requires.sales in
    let r = c.requires.highest in
    cutting_end c.loop-lost.invariant.0 (λ from s p. sweep_end s q.1 p r.1 q.2 (c.loop-lost.invariant.1 from s p) c.loop-lost.invariant.0.room)
