-- The record that is left has its blocked guarantee where `raise` put it, and every other field as it was.
use Rattle.rules.specs.Changes.{blocked_to}
use Rattle.book_records.specs.User.{as_user}
use Rattle.lent_user.proofs.block.Goals as goal

pub returns : goal.returns
unfolding blocked_to as_user
returns c = record { user_is = rw c.raise-next.ensures.blocked_is; added_is = c.raise-next.ensures.added_is }
