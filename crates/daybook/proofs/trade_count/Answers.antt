-- `daybook::trade_count` counts the trades that a user may see after the opening questions. Assumes nothing.
use Rattle.base.specs.Basics.{◌∙◌}
use Rattle.rights.proofs.Replied.{told_by_lem}
use Rattle.rights.specs.Trades.{count_of, id_of}
use Rattle.store.specs.Asked.{figures_in}
use Rattle.daybook.proofs.Opened.{parties_opened}
use Rattle.daybook.proofs.trade_count.Goals as goal

pub count-requires : goal.count-requires
count-requires c = parties_opened _ _ _ _ _ c.admit_with_sums-opened.ensures.opened

pub returns : goal.returns
unfolding id_of
returns c = c.count.ensures (figures_in c.admit_with_sums-opened.result) ∙ told_by_lem (count_of c.args.id) c.admit_with_sums-opened.ensures.admitted
