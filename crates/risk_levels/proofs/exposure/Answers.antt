-- `exposure` is the sum over the three areas. Assumes nothing.
use Rattle.base.specs.Basics.{arith}
use Rattle.base.specs.Sums.{sum}
use Rattle.rules.specs.Areas.{areas}
use Rattle.rules.specs.Book.{at}
use Rattle.rules.specs.Levels.{exposure}
use Rattle.book_records.specs.User.{as_amounts}
use Rattle.risk_holdings.specs.Holdings.{positioned}
use Rattle.risk_levels.proofs.exposure.Goals as goal

pub returns : goal.returns
unfolding exposure sum areas positioned at as_amounts
returns c = let both = c.plus.ensures in
    let all = c.plus-2.ensures in
    record {
      result_value = omega (arith, c.short_worth-pvb.ensures.result_value, c.short_worth-tvb.ensures.result_value, c.short_worth-avb.ensures.result_value, both, all);
      result_bound = omega
          (arith, c.short_worth-pvb.ensures.result_bound, c.short_worth-tvb.ensures.result_bound, c.short_worth-avb.ensures.result_bound, both, all);
    }
