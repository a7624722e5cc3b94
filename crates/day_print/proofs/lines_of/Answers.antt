-- A place below the number of users is below 64, and what its line is told from is among what those of all are.
use Rattle.std.proofs.Common.{arith}
use Rattle.day_print.proofs.Told.{line_asked}
use Rattle.day_print.proofs.lines_of.Goals as goal

pub bounds-below_notified-i : goal.bounds-below_notified-i
bounds-below_notified-i g c = omega (arith, c.loop-i-test.true, c.requires.users_are, c.requires.risk.opened.accepted.held.form.users)

pub line_at-told-requires : goal.line_at-told-requires
line_at-told-requires g c = line_asked c.requires c.loop-i.i c.loop-i-test.true
