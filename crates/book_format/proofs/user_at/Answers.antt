-- `user_at`: the 56 bytes at the place are those of the user. Assumes nothing.
use Rattle.book_format.proofs.Places.{user_read}
use Rattle.book_format.proofs.user_at.Goals as goal

pub returns : goal.returns
returns c = user_read c.requires c.user_offset-a.ensures.0 c.read_user.ensures
