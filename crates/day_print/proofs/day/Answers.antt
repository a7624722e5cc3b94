-- `day_print::day`: an accepted run leaves an accepted book. Assumes nothing.
use Rattle.std.proofs.Common.{refl}
use Rattle.day_print.proofs.Ran.{ran_accepted}
use Rattle.day_print.proofs.day.Goals as goal

pub lines-requires : goal.lines-requires
lines-requires g c = ran_accepted (rw c.in-Ok.is at c.run.ensures) c.in-Ok.ran.log_is_full refl
