-- A flag for each user, by its place. Assumes nothing.
use Rattle.std.specs.Prelude.{◌≡◌, ◌<◌}
use Rattle.base.specs.Basics.{Bool, false, List, ℕ, length, get_or}
use Rattle.book_parties.specs.Ids.{id_at}
use Rattle.laws_sales.specs.Parties.{cut_before}
use Rattle.rules.specs.Book.{Trade, User}

-- a flag for each user that is party to a trade standing below notified
pub record CutFlags (us : List User) (ts : List Trade) (flags : List Bool) : Type 0 where
  pub room : length flags ≡ 64
  pub each : (p : ℕ) → p < length us → get_or flags p false ≡ cut_before (id_at us p) ts
