-- `put_user`: the user's bytes in the place of the 56 that were there. Assumes nothing.
use Rattle.book_records.specs.User.{as_user}
use Rattle.book_format.proofs.Places.{user_put}
use Rattle.book_format.proofs.put_user.Goals as goal

pub returns : goal.returns
returns c = user_put c.requires (as_user c.args.u) c.user_offset-a.ensures.0 c.write_user.ensures
