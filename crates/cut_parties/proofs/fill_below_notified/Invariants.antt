use Rattle.base.specs.Basics.{take}
use Rattle.risk_bearers.specs.Bearers.{trades_in, users_in}
use Rattle.cut_parties.specs.Flags.{CutFlags}
use Rattle.cut_parties.proofs.fill_below_notified.Given as goal

abbrev pub invariant-loop-i : goal.invariant-loop-i
invariant-loop-i l = CutFlags (users_in l.book) (take l.i (trades_in l.book)) l.below_notified
