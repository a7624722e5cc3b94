-- `user_count`: its bytes of the header. Assumes nothing.
use Rattle.base.specs.Basics.{rules}
use Rattle.book_format.specs.Book.{count_of_users}
use Rattle.book_format.proofs.user_count.Goals as goal

pub returns : goal.returns
unfolding count_of_users
returns c = search rules
