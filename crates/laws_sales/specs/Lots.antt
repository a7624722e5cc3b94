-- A tier as the code has it: the standing amounts and the tariffs of its trades, in two lists. Assumes nothing.
use Rattle.std.specs.Prelude.{◌∷◌}
use Rattle.base.specs.Basics.{List, [], ℕ}
use Rattle.rules.specs.Shares.{Lot}

-- the trades of a tier, as many as the shorter list has
unfoldable pub lots_of : List ℕ → List ℕ → List Lot
lots_of [] ts = []
lots_of (s ∷ ss) [] = []
lots_of (s ∷ ss) (t ∷ ts) = record { standing = s; tariff = t } ∷ lots_of ss ts
