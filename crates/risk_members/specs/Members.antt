-- What the user at a place holds as its risk is borne, of a book with the sums of its users. Assumes nothing.
use Rattle.std.specs.Prelude.{◌≡◌, ◌<◌, ◌^◌}
use Rattle.base.specs.Basics.{List, ℕ, get_or}
use Rattle.book_format.specs.Book.{book_of, users_of}
use Rattle.risk_holdings.specs.Holdings.{HoldingsWithin, held_in}
use Rattle.risk_holdings.specs.declared.Holdings.{Holdings}
use Rattle.rules.specs.Book.{nobody}
use Rattle.rules.specs.Levels.{holding}

-- the holdings are those of the rules, none of them high
pub record HoldingsOf (s : List ℕ) (place : ℕ) (h : Holdings) : Type 0 where
  pub each : (area : ℕ) → area < 3 → held_in h area ≡ holding (book_of s) (get_or (users_of s) place nobody) area
  pub low : HoldingsWithin (2 ^ 40) h
