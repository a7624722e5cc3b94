-- `Holding::morning_need` is the difference that the need is, and 0 where that is below 0. Assumes nothing.
use Rattle.base.specs.Basics.{arith}
use Rattle.risk_holdings.specs.Holdings.{as_holding}
use Rattle.risk_holdings.proofs.Needs.{morning_need_of}
use Rattle.risk_holdings.proofs.Holding.morning_need.Goals as goal

pub returns : goal.returns
unfolding as_holding
returns c = omega (arith, morning_need_of (as_holding c.args.self), c.less.ensures, c.plus-covered.ensures, c.plus-2.ensures, c.plus-out.ensures, c.plus.ensures)
