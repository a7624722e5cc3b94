-- A user of a book in bytes that is reduced for an amount. Assumes nothing.
use Rattle.std.specs.Prelude.{◌≡◌, ◌<◌}
use Rattle.base.specs.Basics.{List, ℕ, length}
use Rattle.book_format.specs.Book.{count_of_users}
use Rattle.book_parties.specs.Ids.{BookIn}
use Rattle.risk_bearers.specs.Bearers.{RiskIn, users_in}
use Rattle.risk_user.specs.UserAt.{PositionsOf}
use Rattle.rules.specs.Areas.{Prices}
use Rattle.rules.specs.Book.{Book}
use Rattle.rules.specs.Levels.{Limits}
use Rattle.laws_sales.specs.Groups.{starts}

-- an accepted book, a user's place in it, and the positions of its users; the limits and sums that the user's questions were asked by are of no use to the cuts
pub record UserOf (f : Prices) (s : List ℕ) (place : ℕ) (sellers buyers ps : List ℕ) : Type 0 where
  pub limits : Limits
  pub sums : List ℕ
  pub risk : RiskIn limits f s sums
  pub book : BookIn s sellers buyers
  pub inside : place < count_of_users s
  pub positions : PositionsOf (users_in s) ps
  pub room : length ps ≡ 192

-- the number of own sales of all users
abbrev pub all_sales : Book → ℕ
all_sales b = starts b (length b.users)
