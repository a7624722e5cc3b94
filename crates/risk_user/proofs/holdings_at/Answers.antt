-- `holdings_at`: a holding for each area. Assumes nothing.
use Rattle.book_records.specs.User.{as_amounts}
use Rattle.risk_user.proofs.Held.{held_each}
use Rattle.risk_user.proofs.holdings_at.Goals as goal

pub returns : goal.returns
returns c = let a = c.args in
    record {
      each = held_each a.sums.now a.place (as_amounts a.physical) (as_amounts a.position) (record { pvb = c.holding_at-pvb.result; tvb = c.holding_at-tvb.result; avb = c.holding_at-avb.result })
          c.holding_at-pvb.ensures.result_value c.holding_at-tvb.ensures.result_value c.holding_at-avb.ensures.result_value;
      low = record { pvb = c.holding_at-pvb.ensures.holding_within; tvb = c.holding_at-tvb.ensures.holding_within; avb = c.holding_at-avb.ensures.holding_within };
    }
