-- `users_offset`: the header. Assumes nothing.
use Rattle.base.specs.Basics.{ap, ◌∙◌}
use Rattle.book_format.specs.Book.{size_of_header}
use Rattle.book_format.proofs.users_offset.Goals as goal

pub returns : goal.returns
returns c = record { value = c.header_size.ensures.value ∙ ap size_of_header c.version.ensures; lower_bound = c.header_size.ensures.lower_bound }
