-- `reduce`: the cuts are filled in by the tiers that the positions tell, and can be taken off. Assumes nothing.
use Rattle.base.specs.Basics.{ap, ◌∙◌, List, ℕ, sets}
use Rattle.cut_tiers.proofs.After.{filled_takeable}
use Rattle.cut_tiers.specs.Tiers.{short_by}
use Rattle.units.specs.Prices.{as_prices}
use Rattle.run_reduction.proofs.Filled.{filled_movable, filled_short}
use Rattle.run_reduction.proofs.reduce.Goals as goal

pub settle-requires : goal.settle-requires
settle-requires c = let a = c.args in
    let t = filled_takeable a.standing.now a.areas.now a.cuts.now a.from a.to c.requires.in_range.1 (as_prices a.prices)
    (short_by c.shorts_at-short.result) a.asked.0 c.requires.no_cuts.0
    c.fill_cuts.ensures.cuts_after in
    record { in_range = (c.requires.in_range.0, c.requires.in_range.1, t); movable = filled_movable c.requires.in_range.1 c.requires.in_range.2 t }

pub returns : goal.returns
returns c = let a = c.args in
    record {
      cuts_after = c.fill_cuts.ensures.cuts_after ∙ ap (λ (xs : List ℕ). sets a.cuts.now a.from xs) (filled_short c.requires.in_range.1 c.requires.in_range.2
          (as_prices a.prices) a.asked.0 c.shorts_at-short.ensures);
      standing_after = c.settle.ensures.standing_after;
      positions_after = c.settle.ensures.positions_after;
      result_value = c.settle.ensures.result_value;
      rests_len = c.fill_cuts.ensures.rests_len;
    }
