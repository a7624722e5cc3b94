-- `day_print::input::read_full` is safe and ends: `done` is at most the length of the buffer, and every turn moves it on.
use Rattle.std.proofs.Common.{◌≤◌, ◌-◌, length}
use Rattle.day_print.proofs.input.read_full.Given as goal

abbrev pub invariant-loop-done : goal.invariant-loop-done
invariant-loop-done g l = l.done ≤ length l.bytes

abbrev pub decreases-loop-done : goal.decreases-loop-done
decreases-loop-done g l = length l.bytes - l.done
