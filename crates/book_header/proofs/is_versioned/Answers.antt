-- `is_versioned` asks for the version that the header has. Assumes nothing.
use mathlib.Core.Path.{ap, ◌∙◌}
use Rattle.rules.specs.Questions.{version_known}
use Rattle.book_format.specs.Questions.{versioned}
use Rattle.book_header.proofs.is_versioned.Goals as goal

pub returns : goal.returns
unfolding versioned
returns c = c.is_known.ensures ∙ ap version_known c.version.ensures
