-- `daybook::show` shows the record after the opening questions. Assumes nothing.
use Rattle.daybook.proofs.Opened.{figures_pass}
use Rattle.daybook.proofs.Part.{handed}
use Rattle.daybook.proofs.show.Goals as goal

pub show-requires : goal.show-requires
show-requires c = figures_pass _ _ c.admit-opened.ensures.opened_figures

pub returns : goal.returns
returns c = handed _ _ _ _ _ c.admit-opened.ensures.admitted c.show.ensures.shown_after c.show.ensures.part_after
