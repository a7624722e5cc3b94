use Rattle.shrinkage.proofs.Division.{Dividing}
use Rattle.shrinkage.proofs.shares_of.Given as goal

abbrev pub invariant-loop-i : goal.invariant-loop-i
invariant-loop-i l = Dividing l.balances l.half.0 l.sum.0 l.shares l.remainders l.given l.i
