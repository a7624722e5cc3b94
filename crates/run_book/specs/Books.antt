-- The run of a book in bytes: what its sales lose, and what it gives. Assumes nothing.
use Rattle.std.specs.Prelude.{◌≡◌, ◌+◌, ◌≤◌, ◌<◌}
use Rattle.base.specs.Basics.{List, ℕ, length, get_or}
use Rattle.cut_worth.specs.Totals.{totals}
use Rattle.cut_worth.specs.declared.Totals.{Totals}
use Rattle.book_format.specs.Held.{HeldAs}
use Rattle.rules.specs.Book.{Book}
use Rattle.rules.specs.Calls.{Result}

-- what stood of sales and what is left of the first of them
pub record LeftOf (ns ms : List ℕ) (count : ℕ) : Type 0 where
  pub few : count ≤ 256
  pub room : length ms ≡ 256
  pub most : (k : ℕ) → k < count → get_or ms k 0 ≤ get_or ns k 0

-- and what these have lost
pub record LostOf (ns ms cs : List ℕ) (count : ℕ) : Type 0 where
  pub room : length cs ≡ 256
  pub each : (k : ℕ) → k < count → get_or ms k 0 + get_or cs k 0 ≡ get_or ns k 0

-- what reductions of a book give, one after another, by a result of the rules: bytes that hold its book, and its answer
pub record RanIn (end : Result Book) (s : List ℕ) (r : Totals) : Type 0 where
  pub held : HeldAs end.book s
  pub answer : totals r ≡ end.answer
