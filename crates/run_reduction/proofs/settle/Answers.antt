-- `settle`: the sales passed stand lower by their cuts, and what is left of the cuts gives the whole tally and all moves. Assumes nothing.
use Rattle.base.specs.Basics.{◌≡◌, arith}
use Rattle.cut_tiers.proofs.Tallied.{taken_start, taken_fits, taken_cut, taken_more, taken_standing, taken_tally}
use Rattle.run_positions.proofs.Passing.{move_high, move_low, moved_end, moved_more, moved_start}
use Rattle.units.specs.Prices.{as_prices}
use Rattle.run_reduction.proofs.settle.Goals as goal

pub loop-i-init : goal.loop-i-init
loop-i-init c = (taken_start (as_prices c.args.prices) c.requires.in_range.1 c.requires.in_range.2 c.none-tally.ensures.result_value c.none-tally.ensures.mwh_value.0 c.none-tally.ensures.mwh_value.1, moved_start c.requires.movable)

pub settle_sale-tally-requires : goal.settle_sale-tally-requires
settle_sale-tally-requires c = let h = c.loop-i-test.true in
    let f = as_prices c.args.prices in
    let i = c.loop-i.i in
    let s = c.requires.in_range.1 in
    let t = c.requires.in_range.2 in
    let m = c.requires.movable in
    let p = c.loop-i.invariant.0 in
    let q = c.loop-i.invariant.1 in record {
      i_bound = (omega (arith, h, m.few), taken_fits f s t p h);
      place_bound = (m.place_in, m.buyer_in i q.above h, m.area_in i q.above h, q.room);
      cut_bound
          = (move_high m h q, move_low m h q);
      in_range = (c.requires.in_range.0, omega (arith, p.mwh_most, p.ends, m.few), omega (arith, p.worth_most, p.ends, m.few), taken_cut f s t p h);
    }

pub loop-i-preserved : goal.loop-i-preserved
loop-i-preserved c = let h = c.loop-i-test.true in (
  taken_more (as_prices c.args.prices) c.requires.in_range.1 c.requires.in_range.2 c.loop-i.invariant.0 _ h c.settle_sale-tally.ensures.standing_after c.settle_sale-tally.ensures.result_value c.settle_sale-tally.ensures.mwh_bound.0 c.settle_sale-tally.ensures.mwh_bound.1,
  moved_more c.requires.movable h c.loop-i.invariant.1 c.settle_sale-tally.ensures.positions_after,
)

pub returns : goal.returns
returns c = let f = as_prices c.args.prices in
    let p = c.loop-i.invariant.0 in
    let end : c.loop-i.i ≡ c.args.to = omega (arith, p.ends, c.loop-i-test.false) in record {
      standing_after = taken_standing f c.requires.in_range.1 c.requires.in_range.2 p end;
      positions_after
          = moved_end c.requires.movable c.loop-i-test.false c.loop-i.invariant.1;
      result_value = taken_tally f c.requires.in_range.1 c.requires.in_range.2 p end;
    }
