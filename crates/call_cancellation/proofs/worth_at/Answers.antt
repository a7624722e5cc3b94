-- `worth_at`: what stands of the trade, at the tariff of its area. Assumes nothing.
use Rattle.base.specs.Basics.{◌≡◌, ◌∙◌, ap, ap₂, ℕ, ◌*◌, ◌≤◌, mul-le-mul, arith, get_or}
use Rattle.book_format.specs.Book.{trades_of}
use Rattle.book_records.specs.Trade.{as_trade}
use Rattle.rules.specs.Areas.{tariff}
use Rattle.rules.specs.Book.{Trade, no_trade}
use Rattle.units.specs.Prices.{as_prices}
use Rattle.call_cancellation.proofs.worth_at.Goals as goal
use Rattle.call_cancellation.proofs.worth_at.Goals.{After-trade_at-t}

-- what stands
standing-is : (c : goal.After-trade_at-t) → let a = c.args in c.trade_at-t.result.standing.0 ≡ (get_or (trades_of a.book.now) a.i no_trade).standing
unfolding as_trade
standing-is c = ap (λ (t : Trade). t.standing) c.trade_at-t.ensures

pub worth-worth-requires : goal.worth-worth-requires
worth-worth-requires c = (omega (arith, c.tariff.ensures.le_result.1), omega (arith, c.energy.ensures, standing-is (goal.at.worth-worth-requires c).After-trade_at-t, c.requires.in_range.1))

pub returns : goal.returns
unfolding as_trade
returns c = let a = c.args in
    let low : c.energy.result.0 ≤ 100000 = omega (arith, c.energy.ensures, standing-is (goal.at.returns c).After-trade_at-t, c.requires.in_range.1) in record {
      value = c.worth-worth.ensures.result_value
          ∙ ap₂ (λ (x y : ℕ). x * y) (c.energy.ensures ∙ standing-is (goal.at.returns c).After-trade_at-t) (c.tariff.ensures.result_value ∙ ap (λ (x : Trade). tariff (as_prices a.prices) x.terms.area) c.trade_at-t.ensures);
      upper_bound = omega (arith, c.worth-worth.ensures.result_value, mul-le-mul low c.tariff.ensures.le_result.1);
    }
