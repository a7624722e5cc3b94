-- The line of the rules that a line of the code is, the line at a place of the printed day, and what it is told from. Assumes nothing.
use Rattle.std.specs.Prelude.{Bool, List, ◌≡◌, ℕ, ◌<◌, get_or}
use Rattle.laws_sales.specs.Parties.{cut_before}
use Rattle.book_format.specs.Book.{count_of_users, users_of}
use Rattle.book_records.specs.User.{as_amounts}
use Rattle.risk_bearers.specs.Bearers.{RiskIn, trades_in, users_in}
use Rattle.risk_user.specs.UserAt.{PositionsOf}
use Rattle.risk_user.specs.States.{state_of}
use Rattle.rules.specs.Areas.{Prices}
use Rattle.rules.specs.Book.{Book, nobody}
use Rattle.rules.specs.Levels.{Limits}
use Rattle.rules.specs.Day as day
use Rattle.day_lines.specs.declared.Line.{Line}

-- by its fields
unfoldable pub as_line : Line → day.Line
as_line l = record { id = l.id; state = state_of l.state; level = l.level.0; position = as_amounts l.position }

-- the line at a place among the lines of a book; past the last, that of nobody
unfoldable pub line_in : Limits → Book → ℕ → day.Line
line_in limits b i = get_or (day.lines limits b) i (day.line limits b nobody)

-- the risk of a book in bytes, and a user at a place; as the risk is borne, the positions of the users, and whether the user is party to a trade standing below notified
pub record LineAsked (limits : Limits) (f : Prices) (s sums ps : List ℕ) (place : ℕ) (below : Bool) : Type 0 where
  pub risk : RiskIn limits f s sums
  pub inside : place < count_of_users s
  pub positions : PositionsOf (users_in s) ps
  pub below_is : below ≡ cut_before (get_or (users_of s) place nobody).party.id (trades_in s)
