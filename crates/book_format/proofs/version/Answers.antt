-- `version`: its bytes of the header. Assumes nothing.
use Rattle.base.specs.Basics.{rules}
use Rattle.book_format.specs.Book.{version_of}
use Rattle.book_format.proofs.version.Goals as goal

pub returns : goal.returns
unfolding version_of
returns c = search rules
