-- `daybook::level` gives the level of a time of the day after the opening questions, with the figures of its setting. Assumes nothing.
use Rattle.base.specs.Basics.{◌∙◌}
use Rattle.rights.proofs.Replied.{replied_by}
use Rattle.daybook.proofs.Part.{of_level}
use Rattle.daybook.proofs.Opened.{sums_opened}
use Rattle.daybook.proofs.level.Goals as goal

pub level-requires : goal.level-requires
level-requires c = sums_opened _ _ _ _ _ c.admit_with_sums-opened.ensures.opened

pub returns : goal.returns
returns c = c.level.ensures ∙ replied_by _ (of_level _ c.args.afternoon c.args.id c.admit_with_sums-opened.ensures.admitted)
