-- The level and the query of a time of the day: the afternoon's where it is yes, else the morning's. Assumes nothing.
use Rattle.std.specs.Prelude.{Bool, true, false, ℕ}
use Rattle.rules.specs.Book.{Book, User}
use Rattle.rules.specs.Levels.{Limits, morning_level, afternoon_level}
use Rattle.rules.specs.Queries.{Query, morning_level_of, afternoon_level_of}

-- the level
unfoldable pub level_of_user : Bool → Limits → Book → User → ℕ
level_of_user true limits b u = afternoon_level limits b u
level_of_user false limits b u = morning_level limits b u

-- the query
abbrev pub query_of : Bool → ℕ → Query
query_of true id = afternoon_level_of id
query_of false id = morning_level_of id
