-- `choose`: the cuts fit where no share is a whole MWh and the highest sales reach what is asked. Assumes nothing.
use Rattle.base.specs.Basics.{sym, subst, arith}
use Rattle.cut_worth.specs.Rates.{Rates}
use Rattle.units.specs.Prices.{as_prices}
use Rattle.cut_worth.proofs.Rates.{sales_behind}
use Rattle.cut_peaks.proofs.Keeping.{chosen_cut, chosen_none, chosen_part, fits_all, kept_cuts, kept_highest, tier_range}
use Rattle.cut_peaks.proofs.choose.Goals as goal

pub returns-then-kept-asked : goal.returns-then-kept-asked
returns-then-kept-asked c = let q = c.current-kept.ensures.0.peaked in
    chosen_none (as_prices c.args.prices) c.args.short.now c.args.asked q.starts q.ends c.requires.in_range.3

pub peak_cuts-sweep-requires : goal.peak_cuts-sweep-requires
peak_cuts-sweep-requires c = let k = c.current-kept in
    let p = k.ensures.0 in
    let e = c.rates_kept-rates.ensures in
    let f = as_prices c.args.prices in
    let high = kept_highest f k.result e p in record {
      sales = (
        sales_behind c.requires.in_range.1 p.peaked.starts,
        subst Rates (sym e) (tier_range f k.result c.requires.in_range.0),
        c.requires.in_range.3,
        p.peaked.ends,
        omega (arith, c.if-kept-asked.false, p.worth_most),
      );
      highest = (high.0, c.requires.in_range.4, high.1);
    }

pub returns-then-asked-sweep : goal.returns-then-asked-sweep
returns-then-asked-sweep c = let a = c.args in
    let k = c.current-kept in
    let p = k.ensures.0 in
    let f = as_prices a.prices in
    let q = kept_cuts f k.result c.rates_kept-rates.ensures c.peak_cuts-sweep.ensures in
    chosen_cut f a.short.now a.asked
    (fits_all f c.requires.in_range.0 k.result c.requires.in_range.1 c.requires.in_range.2 c.requires.in_range.3 p k.ensures.1 q c.if-kept-asked.false c.if-kept-asked-2.false c.if-asked-sweep.true) q

pub returns-else-asked-sweep : goal.returns-else-asked-sweep
returns-else-asked-sweep c = let a = c.args in
    let k = c.current-kept in
    let f = as_prices a.prices in
    chosen_part f a.short.now a.asked k.ensures.0 (kept_cuts f k.result c.rates_kept-rates.ensures c.peak_cuts-sweep.ensures)
