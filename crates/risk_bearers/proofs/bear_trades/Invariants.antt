use Rattle.risk_bearers.proofs.Trades.{BorneTo}
use Rattle.risk_bearers.proofs.bear_trades.Given as goal

abbrev pub invariant-loop-i : goal.invariant-loop-i
invariant-loop-i l = BorneTo l.book l.bearers l.bearing_sellers l.bearing_buyers l.sums l.i
