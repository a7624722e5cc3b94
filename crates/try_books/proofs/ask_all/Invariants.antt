-- `try_books::ask_all` is safe and ends: `at` is at most the length and every turn moves it on, and the place of a book is never above the place of its bytes.
use Rattle.std.proofs.Common.{◌≤◌, ◌-◌, length}
use Rattle.try_books.proofs.ask_all.Given as goal

abbrev pub invariant-loop-at : goal.invariant-loop-at
invariant-loop-at g l = (l.at ≤ length l.file) × (l.place ≤ l.at)

abbrev pub decreases-loop-at : goal.decreases-loop-at
decreases-loop-at g l = length l.file - l.at
