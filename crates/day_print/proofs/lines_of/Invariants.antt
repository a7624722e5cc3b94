-- `day_print::lines_of` is safe and ends: `i` counts up to the number of users, and each of them has a line. Assumes nothing.
use Rattle.std.proofs.Common.{◌≤◌}
use Rattle.day_print.proofs.lines_of.Given as goal

abbrev pub invariant-loop-i : goal.invariant-loop-i
invariant-loop-i g l = l.i ≤ l.n
