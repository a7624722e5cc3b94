-- `raised`: the sum fits, and all else is as it was. Assumes nothing.
use Rattle.base.specs.Basics.{ap, ℕ, arith}
use Rattle.book_records.specs.Trade.{as_trade}
use Rattle.log_format.specs.Withdrawal.{raise_by}
use Rattle.log_withdrawal.proofs.raised.Goals as goal

pub plus-requires : goal.plus-requires
unfolding as_trade
plus-requires c = omega (arith, c.requires.t_bound, c.requires.cut_bound)

pub returns : goal.returns
unfolding as_trade raise_by
returns c = ap (λ (n : ℕ). record { terms = (as_trade c.args.t).terms; standing = n }) c.plus.ensures
