-- `try_calls::make_reductions` is safe and ends: `at` is at most the length of the file and every turn moves it on, the last part lies in the file, and the place of a reduction is never above the place of its bytes.
use Rattle.std.proofs.Common.{◌≤◌, ◌-◌, length}
use Rattle.try_calls.proofs.make_reductions.Given as goal

abbrev pub invariant-loop-file : goal.invariant-loop-file
invariant-loop-file g l = (l.at ≤ length l.file) × (l.place ≤ l.at) × (l.part.start ≤ l.part.end) × (l.part.end ≤ length l.file)

abbrev pub decreases-loop-file : goal.decreases-loop-file
decreases-loop-file g l = length l.file - l.at
