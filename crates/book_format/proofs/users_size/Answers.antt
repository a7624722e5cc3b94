-- `users_size`: by the version. Assumes nothing.
use Rattle.base.specs.Basics.{ap, ◌∙◌}
use Rattle.book_format.specs.Book.{size_of_user}
use Rattle.book_format.proofs.users_size.Goals as goal

pub returns : goal.returns
returns c = record { value = c.user_size.ensures.value ∙ ap size_of_user c.version.ensures; lower_bound = c.user_size.ensures.lower_bound }
