-- `entry_offset`: the entries stand one after the other behind the held book. Assumes nothing.
use Rattle.base.specs.Basics.{refl}
use Rattle.log_format.specs.Log.{entry_at}
use Rattle.log_questions.proofs.entry_offset.Goals as goal

pub returns : goal.returns
unfolding entry_at
returns c = (refl, refl)
