-- `try_days::print_days` is safe and ends: `at` is at most the length of the file, and every turn moves it on.
use Rattle.std.proofs.Common.{◌≤◌, ◌-◌, length}
use Rattle.try_days.proofs.print_days.Given as goal

abbrev pub invariant-loop-file : goal.invariant-loop-file
invariant-loop-file g l = l.at ≤ length l.file

abbrev pub decreases-loop-file : goal.decreases-loop-file
decreases-loop-file g l = length l.file - l.at
