-- `try_calls::lists::make_lists` is safe and ends: `at` is at most the length of the file and every turn moves it on, and the place of a list is never above the place of its bytes.
use Rattle.std.proofs.Common.{◌≤◌, ◌-◌, length}
use Rattle.try_calls.proofs.lists.make_lists.Given as goal

abbrev pub invariant-loop-file : goal.invariant-loop-file
invariant-loop-file g l = (l.at ≤ length l.file) × (l.place ≤ l.at)

abbrev pub decreases-loop-file : goal.decreases-loop-file
decreases-loop-file g l = length l.file - l.at
