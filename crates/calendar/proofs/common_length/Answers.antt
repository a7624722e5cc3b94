-- The table's rule is a test of each of its twelve entries, which antt computes.
use Rattle.std.proofs.Common.{ℕ, List, [], ◌∷◌}
use lib.Dec.{T}
use Rattle.rules.specs.Calendar.{leap_year, days_in_month}
use Rattle.calendar.proofs.Table.{every}
use Rattle.calendar.proofs.Months.{is_length, entry_common, entry_below}
use Rattle.calendar.proofs.common_length.Goals as goal

-- the table
lengths : List ℕ
lengths = 31 ∷ 28 ∷ 31 ∷ 30 ∷ 31 ∷ 30 ∷ 31 ∷ 31 ∷ 30 ∷ 31 ∷ 30 ∷ 31 ∷ []

-- its rule, computed at all twelve entries
lengths-right : T (every is_length 0 lengths)
unfolding lengths is_length days_in_month leap_year
lengths-right = tt

pub returns : goal.returns
unfolding lengths
returns c =
    (entry_common lengths lengths-right _ c.requires.0 c.requires.1, entry_below lengths lengths-right _ c.requires.0 c.requires.1)
