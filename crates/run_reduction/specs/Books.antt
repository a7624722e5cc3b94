-- A book in bytes that can be run, or reduced for a user, and the lists of its own sales. Assumes nothing.
use Rattle.base.specs.Basics.{List, ℕ}
use Rattle.cut_lists.specs.Sales.{SalesOf, SalesRoom, StandingOf}
use Rattle.risk_bearers.specs.Bearers.{BorneIn, RiskIn}
use Rattle.rules.specs.Areas.{Prices}
use Rattle.rules.specs.Book.{Book}
use Rattle.rules.specs.Levels.{Limits}

-- the risk of a book in bytes, and the places of those who bear that of the sellers and of the buyers of its trades
pub record Runnable (limits : Limits) (f : Prices) (s sellers buyers sums : List ℕ) : Type 0 where
  pub risk : RiskIn limits f s sums
  pub book : BorneIn s sellers buyers

-- the own sales of all users of a book, and what stands of them
pub record Listed (b : Book) (ss origins ns area_codes bs : List ℕ) (count : ℕ) : Type 0 where
  pub sales : SalesOf b ss origins area_codes bs count
  pub standing : StandingOf b ns count
  pub room : SalesRoom origins ns area_codes bs
