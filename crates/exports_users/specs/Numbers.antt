-- The numbers that the levels of all users are in a lent part, in their order. Assumes nothing.
use Rattle.std.specs.Prelude.{◌∷◌, ◌++◌}
use Rattle.base.specs.Basics.{List, [], ℕ}
use Rattle.rules.specs.Day.{State, call, clear, quiet, short}
use Rattle.user_levels.specs.Levels.{AllLevels, UserLevels}

-- of a state, in the order of document 01: `clear`, `short`, `call`, `quiet`
unfoldable pub number_of_state : State → ℕ
number_of_state clear = 0
number_of_state short = 1
number_of_state call = 2
number_of_state quiet = 3

-- of a user: its id, its state, its morning and its afternoon level in cents
unfoldable pub row_numbers : UserLevels → List ℕ
row_numbers r = r.id ∷ (number_of_state r.state ∷ (r.morning ∷ (r.afternoon ∷ [])))

-- user by user
unfoldable pub rows_numbers : List UserLevels → List ℕ
rows_numbers [] = []
rows_numbers (r ∷ rs) = row_numbers r ++ rows_numbers rs

-- of 64 users
unfoldable pub users_numbers : AllLevels → List ℕ
users_numbers a = rows_numbers a.users
