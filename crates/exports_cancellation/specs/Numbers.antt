-- The numbers that a whole cancellation is in two lent parts, in their order. Assumes nothing.
use Rattle.std.specs.Prelude.{◌∷◌}
use Rattle.base.specs.Basics.{List, [], map, ℕ}
use Rattle.requests.specs.Cancellation.{Cancellation}
use Rattle.exports_answers.specs.Numbers.{bit}

-- "256 marks by trade place": 1 where the trade is cancelled, else 0
unfoldable pub mark_numbers : Cancellation → List ℕ
mark_numbers c = map bit c.marks

-- the excess in cents, the tries made, and whether it is complete
unfoldable pub cancellation_numbers : Cancellation → List ℕ
cancellation_numbers c = c.excess ∷ c.tries ∷ bit c.complete ∷ []
