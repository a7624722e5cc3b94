-- The numbers that an answer is in a lent part, in their order. Assumes nothing.
use Rattle.std.specs.Prelude.{◌∷◌}
use Rattle.base.specs.Basics.{Bool, cond, List, [], ℕ, length}
use Rattle.rules.specs.Calls.{Answer}
use Rattle.rules.specs.Queries.{Reply}
use Rattle.rights.specs.Trades.{Told}

-- of a level: the level in cents
unfoldable pub level_numbers : Reply → List ℕ
level_numbers r = r.level ∷ []

-- yes as 1 and no as 0
unfoldable pub bit : Bool → ℕ
bit b = cond b 1 0

-- of a warning: whether the user is warned
unfoldable pub warning_numbers : Reply → List ℕ
warning_numbers r = bit r.warned ∷ []

-- of a flag: whether the user is flagged
unfoldable pub flag_numbers : Told → List ℕ
flag_numbers r = bit r.flagged ∷ []

-- of a count of trades: how many the user may see
unfoldable pub count_numbers : Told → List ℕ
count_numbers r = r.count ∷ []

-- of a trade by ordinal: the bytes of its part, 20, or past the last 0
unfoldable pub trade_numbers : Told → List ℕ
trade_numbers r = length r.part ∷ []

-- of a guarantee call: the level and what was added, in cents
unfoldable pub call_numbers : Answer → List ℕ
call_numbers a = a.level ∷ a.added ∷ []

-- of a reduction: the MWh cut and their worth, the target, and what the worth falls short of it or exceeds it by
unfoldable pub reduction_numbers : Answer → List ℕ
reduction_numbers a = a.mwh ∷ a.worth ∷ a.target ∷ a.short ∷ a.over ∷ []

-- of a run: the reductions, the MWh cut and their worth
unfoldable pub run_numbers : Answer → List ℕ
run_numbers a = a.reductions ∷ a.mwh ∷ a.worth ∷ []

-- of a withdrawal: the MWh of the reduction that was withdrawn, and their worth
unfoldable pub withdrawal_numbers : Answer → List ℕ
withdrawal_numbers a = a.mwh ∷ a.worth ∷ []
