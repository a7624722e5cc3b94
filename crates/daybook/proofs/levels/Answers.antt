-- `daybook::levels` gives the levels of all users after the opening questions, with the figures of its setting. Assumes nothing.
use Rattle.base.specs.Basics.{◌∙◌}
use Rattle.user_levels.proofs.Asked.{levels_told_lem}
use Rattle.daybook.proofs.levels.Goals as goal

pub levels-requires : goal.levels-requires
levels-requires c = c.admit_with_sums-opened.ensures.opened

pub returns : goal.returns
returns c = c.levels.ensures ∙ levels_told_lem _ _ _ c.admit_with_sums-opened.ensures.admitted
