-- The answer of a call with a log, with another number. Assumes nothing.
use Rattle.base.specs.Basics.{ℕ}
use Rattle.rules.specs.Calls.{Answer}

-- an answer with another number
unfoldable pub numbered : ℕ → Answer → Answer
numbered n a =
    record { number = n; level = a.level; added = a.added; reductions = a.reductions; mwh = a.mwh; worth = a.worth; target = a.target; short = a.short; over = a.over }
