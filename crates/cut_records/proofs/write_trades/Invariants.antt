use Rattle.cut_records.proofs.Placed.{PlacedSo}
use Rattle.cut_records.proofs.write_trades.Given as goal

abbrev pub invariant-loop-k : goal.invariant-loop-k
invariant-loop-k g l = PlacedSo l.initial.book l.origins l.trades l.book l.k
