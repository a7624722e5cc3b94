-- Every field is the number 0, a signed amount as its offset.
use Rattle.std.proofs.Common.{refl}
use Rattle.book_records.specs.User.{blank_user}
use Rattle.book_records.proofs.no_user.Goals as goal

pub returns : goal.returns
unfolding blank_user
returns c = refl
