-- `no_users` has 0 in every field. Assumes nothing.
use Rattle.base.specs.Basics.{refl}
use Rattle.user_levels.specs.Levels.{no_levels, no_user}
use Rattle.call_answers.specs.Levels.{as_row}
use Rattle.call_users.proofs.no_users.Goals as goal

pub returns : goal.returns
unfolding as_row no_levels no_user
returns c = refl
