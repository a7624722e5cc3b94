-- Trades that are lowered by their cuts. Assumes nothing.
use Rattle.std.specs.Prelude.{◌≡◌}
use Rattle.base.specs.Basics.{List, map, ℕ}
use Rattle.rules.specs.Reduction.{cut_all}
use Rattle.book_records.specs.declared.Trade.{Trade}
use Rattle.book_records.specs.Trade.{as_trade}

-- the list at the end is the one that was lent, each trade with its cut; where there is no cut, the trade as it was
pub record LoweredBy (cuts : List ℕ) (lent last : List Trade) : Type 0 where
  pub trades : map as_trade last ≡ cut_all cuts (map as_trade lent)
