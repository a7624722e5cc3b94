-- `daybook::warning` gives the warning after the opening questions, with the figures of its setting. Assumes nothing.
use Rattle.base.specs.Basics.{◌∙◌}
use Rattle.rights.proofs.Replied.{replied_by}
use Rattle.rights.specs.Party.{matter_of}
use Rattle.daybook.proofs.warning.Goals as goal

pub warning-requires : goal.warning-requires
warning-requires c = c.admit-opened.ensures.opened_figures

pub returns : goal.returns
unfolding matter_of
returns c = c.warning.ensures ∙ replied_by _ c.admit-opened.ensures.admitted
