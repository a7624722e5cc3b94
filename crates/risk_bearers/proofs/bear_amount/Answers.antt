-- `bear_amount`: one amount more is added. Assumes nothing.
use Rattle.risk_bearers.proofs.Rows.{amount_lies, rows_next}
use Rattle.risk_bearers.proofs.bear_amount.Goals as goal

pub add_amount-requires : goal.add_amount-requires
add_amount-requires c = amount_lies c.requires.0 c.requires.1 c.index-place.ensures.0

pub returns : goal.returns
returns c = rows_next c.requires.0 c.requires.1 c.index-place.ensures.0 c.add_amount.ensures
