use Rattle.shrinkage.proofs.Balances.{Summing}
use Rattle.shrinkage.proofs.sums_of.Given as goal

abbrev pub invariant-loop-balance : goal.invariant-loop-balance
invariant-loop-balance l = Summing l.balances l.above l.below l.balance-index
