-- `daybook::cancellation` searches after the opening questions, with the figures of its setting. Assumes nothing.
use Rattle.base.specs.Basics.{◌∙◌}
use Rattle.requests.proofs.Cancellation.{cancellation_opened}
use Rattle.daybook.proofs.cancellation.Goals as goal

pub cancellation-requires : goal.cancellation-requires
cancellation-requires c = c.admit_with_sums-opened.ensures.opened

pub returns : goal.returns
returns c = c.cancellation.ensures ∙ cancellation_opened _ _ c.admit_with_sums-opened.ensures.admitted
