-- `settle_sale`: with no cut, all stays. Assumes nothing.
use Rattle.base.specs.Basics.{◌≡◌, sym, ap, ◌∙◌, ℕ, ◌-◌, arith, get_or, set, set-get_or}
use Rattle.cut_tiers.proofs.Tallied.{tally_same}
use Rattle.cut_worth.specs.Tallies.{as_tally}
use Rattle.run_positions.proofs.Passing.{one_none}
use Rattle.units.specs.Prices.{as_prices}
use Rattle.run_reduction.proofs.settle_sale.Goals as goal

pub returns-then-cut-eq0 : goal.returns-then-cut-eq0
returns-then-cut-eq0 c = let a = c.args in
    let ns = a.standing.now in
    let z = c.if-cut-eq0.true in
    let e : get_or ns a.i 0 ≡ get_or ns a.i 0 - a.cut = omega (arith, z) in record {
      standing_after = sym (set-get_or ns a.i 0) ∙ ap (λ (n : ℕ). set ns a.i n) e;
      positions_after = one_none a.place
          a.buyer a.area a.positions.now z;
      result_value = (λ t _. tally_same (as_prices a.prices) t (as_tally a.tally) z);
      mwh_bound = (omega arith, omega arith);
    }

pub returns : goal.returns
returns c = record { standing_after = c.lower_sale.ensures; positions_after = c.move_sale.ensures; result_value = c.tally_with.ensures.result_value; mwh_bound = c.tally_with.ensures.mwh_bound }
