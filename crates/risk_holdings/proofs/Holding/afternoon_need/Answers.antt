-- `Holding::afternoon_need` is the difference that the need is, and 0 where that is below 0. Assumes nothing.
use Rattle.base.specs.Basics.{arith}
use Rattle.risk_holdings.specs.Holdings.{as_holding}
use Rattle.risk_holdings.proofs.Needs.{afternoon_need_of}
use Rattle.risk_holdings.proofs.Holding.afternoon_need.Goals as goal

pub returns : goal.returns
unfolding as_holding
returns c = let a = c.args in
    omega (arith, afternoon_need_of a.area (as_holding a.self), c.less.ensures, c.plus.ensures)
