-- `daybook::flag` tells the flag after the opening questions, with the figures of its setting. Assumes nothing.
use Rattle.base.specs.Basics.{◌∙◌}
use Rattle.rights.proofs.Replied.{told_by_lem}
use Rattle.rights.specs.Trades.{flag_of, id_of}
use Rattle.daybook.proofs.flag.Goals as goal

pub flag-requires : goal.flag-requires
flag-requires c = c.admit-opened.ensures.opened_figures

pub returns : goal.returns
unfolding id_of
returns c = c.flag.ensures ∙ told_by_lem (flag_of c.args.id) c.admit-opened.ensures.admitted
