-- `daybook::trade` hands back the trade of an ordinal after the opening questions. Assumes nothing.
use Rattle.daybook.proofs.Opened.{parties_opened}
use Rattle.daybook.proofs.Part.{trade_handed}
use Rattle.daybook.proofs.trade.Goals as goal

pub trade-requires : goal.trade-requires
trade-requires c = parties_opened _ _ _ _ _ c.admit_with_sums-opened.ensures.opened

pub returns-clause-handed : goal.returns-clause-handed
returns-clause-handed c = trade_handed _ _ _ _ _ c.admit_with_sums-opened.ensures.admitted c.trade.ensures.told
