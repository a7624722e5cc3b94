-- What the lines of a book's users are told from. Assumes nothing.
use Rattle.std.specs.Prelude.{Bool, List, ◌≡◌, ℕ}
use Rattle.book_format.specs.Book.{count_of_users}
use Rattle.risk_bearers.specs.Bearers.{RiskIn, trades_in, users_in}
use Rattle.risk_user.specs.UserAt.{PositionsOf}
use Rattle.rules.specs.Areas.{Prices}
use Rattle.rules.specs.Levels.{Limits}
use Rattle.cut_parties.specs.Flags.{CutFlags}

-- the risk of a book of n users in bytes; as it is borne, the positions of the users, and which of them are party to a trade standing below notified
pub record LinesAsked (limits : Limits) (f : Prices) (s : List ℕ) (n : ℕ) (sums ps : List ℕ) (flags : List Bool) : Type 0 where
  pub risk : RiskIn limits f s sums
  pub users_are : n ≡ count_of_users s
  pub positions : PositionsOf (users_in s) ps
  pub below : CutFlags (users_in s) (trades_in s) flags
