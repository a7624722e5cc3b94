-- What the contracts of the inner calls say, whose opening questions are answered already, by their number. Assumes nothing.
use Rattle.std.specs.Prelude.{◌≡◌}
use Rattle.base.specs.Basics.{List, ℕ}
use Rattle.rules.specs.Calls.{Answer, Call, call_after}
use Rattle.rules.specs.Levels.{Limits}
use Rattle.book_format.specs.Steps.{in_bytes}

-- the number of the opening questions, bytes before, call, answer, bytes after
pub record CalledAfter (number : ℕ) (limits : Limits) (s : List ℕ) (c : Call) (a : Answer) (t : List ℕ) : Type 0 where
  pub answer : a ≡ (call_after in_bytes number limits s c).answer
  pub bytes : t ≡ (call_after in_bytes number limits s c).book
