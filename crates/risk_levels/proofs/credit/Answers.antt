-- `credit` is the sum over the three areas. Assumes nothing.
use Rattle.base.specs.Basics.{arith}
use Rattle.base.specs.Sums.{sum}
use Rattle.rules.specs.Areas.{areas}
use Rattle.rules.specs.Book.{at}
use Rattle.rules.specs.Levels.{credit}
use Rattle.book_records.specs.User.{as_amounts}
use Rattle.risk_holdings.specs.Holdings.{positioned}
use Rattle.risk_levels.proofs.credit.Goals as goal

pub returns : goal.returns
unfolding credit sum areas positioned at as_amounts
returns c = let both = c.plus.ensures in
    let all = c.plus-2.ensures in
    record {
      result_value = omega (arith, c.long_worth-pvb.ensures.result_value, c.long_worth-tvb.ensures.result_value, c.long_worth-avb.ensures.result_value, both, all);
      result_bound = omega
          (arith, c.long_worth-pvb.ensures.result_bound, c.long_worth-tvb.ensures.result_bound, c.long_worth-avb.ensures.result_bound, both, all);
    }
