-- A user of a book in bytes whose eligible trades are looked for, and their worths. Assumes nothing.
use Rattle.std.specs.Prelude.{◌≡◌, ◌-◌, ◌<◌, ◌^◌}
use Rattle.base.specs.Basics.{Bool, List, ℕ, take}
use Rattle.cut_sets.specs.Found.{Given}
use Rattle.cut_sets.specs.Places.{count_of, worths_of}
use Rattle.book_format.specs.Book.{count_of_trades, trades_at, count_of_users}
use Rattle.requests.specs.Cancellation.{marks_of, whole_worth}
use Rattle.risk_bearers.specs.Bearers.{BorneIn}
use Rattle.rules.specs.Book.{Book, User}
use Rattle.rules.specs.Reduction.{eligible}

-- bytes hold an accepted book, whose m trades begin at an offset; the places of those who bear the risk of their parties, and the place of a user
pub record Selling (at m : ℕ) (s sellers buyers : List ℕ) (place : ℕ) : Type 0 where
  pub borne : BorneIn s sellers buyers
  pub begin : at ≡ trades_at s
  pub trades_are : m ≡ count_of_trades s
  pub inside : place < count_of_users s

-- the number of sets of the user's eligible trades
abbrev pub sets_of : Book → User → ℕ
sets_of b u = 2 ^ count_of (eligible b u) b.trades

-- the marks of all of them but those of a set left out
abbrev pub unmarked : Book → User → ℕ → List Bool
unmarked b u left = marks_of b u (sets_of b u - 1 - left)

-- the first k numbers are the worths of the user's eligible trades, in book order
pub record Worths (b : Book) (u : User) (k : ℕ) (worths : List ℕ) : Type 0 where
  pub given : Given k worths
  pub count_is : k ≡ count_of (eligible b u) b.trades
  pub worths_are : take k worths ≡ worths_of (eligible b u) (whole_worth b) b.trades
