-- The first i trades of the list are cut: with the others cut it is the whole list, cut.
use Rattle.std.proofs.Common.{◌≡◌, map}
use Rattle.rules.specs.Reduction.{cut_all}
use Rattle.book_records.specs.Trade.{as_trade}
use Rattle.lent_trades.proofs.Turns.{from}
use Rattle.lent_trades.proofs.lower_all.Given as goal

abbrev pub invariant-loop-i : goal.invariant-loop-i
invariant-loop-i l = from l.i l.cuts l.trades ≡ cut_all l.cuts (map as_trade l.initial.trades)
