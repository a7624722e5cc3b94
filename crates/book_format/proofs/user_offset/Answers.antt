-- `user_offset`: by where the users begin, and their size. Assumes nothing.
use Rattle.book_format.proofs.user_offset.Goals as goal

pub users_offset-requires : goal.users_offset-requires
users_offset-requires c = c.requires.form.head

pub users_size-requires : goal.users_size-requires
users_size-requires c = c.requires.form.head

pub user_offset_from-requires : goal.user_offset_from-requires
user_offset_from-requires c = (c.requires, c.users_offset.ensures.value, c.users_size.ensures.value)

pub returns : goal.returns
returns c = c.user_offset_from.ensures
