-- What the opening questions give a call where none of them refuses: a book that passes 1 to 7, and what the call takes with it. Assumes nothing.
use Rattle.std.specs.Prelude.{◌≡◌}
use Rattle.base.specs.Basics.{List, ℕ, length}
use Rattle.book_format.specs.Book.{users_of, trades_of}
use Rattle.book_format.specs.Held.{Accepted}
use Rattle.book_format.specs.Questions.{book_number}
use Rattle.book_parties.specs.Ids.{BookIn}
use Rattle.book_sums.specs.Twelve.{SumsOf}
use Rattle.rules.specs.Levels.{Limits}
use Rattle.units.specs.Limits.{LimitsInRange}

-- figures in range
pub record OpenedFigures (limits : Limits) (s : List ℕ) : Type 0 where
  pub passes : book_number s ≡ 0
  pub accepted : Accepted s
  pub limits_in : LimitsInRange limits

-- the figures, and the twelve sums of each user
pub record OpenedSums (limits : Limits) (s sums : List ℕ) : Type 0 where
  pub figures : OpenedFigures limits s
  pub sums_are : SumsOf (users_of s) (trades_of s) sums

-- the places of the trades' sellers and buyers
pub record OpenedParties (s sellers buyers : List ℕ) : Type 0 where
  pub passes : book_number s ≡ 0
  pub book : BookIn s sellers buyers
  pub sellers_room : length sellers ≡ 256
  pub buyers_room : length buyers ≡ 256

-- figures, sums and places
pub record Opened (limits : Limits) (s sellers buyers sums : List ℕ) : Type 0 where
  pub summed : OpenedSums limits s sums
  pub parties : OpenedParties s sellers buyers
