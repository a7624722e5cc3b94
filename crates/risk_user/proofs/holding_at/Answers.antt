-- `holding_at`: the four sums of the area, none of them high, with the physical entry and the position. Assumes nothing.
use Rattle.base.specs.Basics.{sym, ap₂, ◌∙◌, arith, ℤ}
use Rattle.book_records.proofs.Amounts.{at-as_amounts}
use Rattle.risk_holdings.specs.Holdings.{as_holding}
use Rattle.risk_user.specs.UserAt.{holding_by}
use Rattle.risk_user.proofs.Held.{held_by}
use Rattle.risk_user.proofs.holding_at.Goals as goal

pub returns : goal.returns
unfolding as_holding
returns c = let a = c.args in record {
  result_value = held_by a.sums.now a.place a.area c.sum_at-sold.ensures.0 c.sum_at-sold_next.ensures.0 c.sum_at-bought.ensures.0 c.sum_at-bought_next.ensures.0
      ∙ ap₂ (λ (x y : ℤ). holding_by a.sums.now a.place a.area x y) (sym (at-as_amounts a.physical a.area c.requires.2)) (sym (at-as_amounts a.position a.area c.requires.2));
  holding_within = record {
    sold = omega (arith, c.sum_at-sold.ensures.1);
    bought = omega (arith, c.sum_at-bought.ensures.1);
    sold_next_lem = omega (arith, c.sum_at-sold_next.ensures.1);
    bought_next_lem = omega (arith, c.sum_at-bought_next.ensures.1);
  };
}
