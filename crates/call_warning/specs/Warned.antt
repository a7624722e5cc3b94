-- Who is warned, by the user's id. Assumes nothing.
use Rattle.std.specs.Prelude.{◌≡◌, ◌&&◌}
use Rattle.base.specs.Basics.{Bool, List, ℕ, eqb}
use Rattle.rules.specs.Book.{Book, User, Trade}
use Rattle.rules.specs.Levels.{Limits, shipper, flagged}
use Rattle.rules.specs.Queries.{Query, warning, warns}
use Rattle.units.specs.Prices.{as_prices}
use Rattle.units.specs.declared.Prices.{Prices}
use Rattle.book_format.specs.Book.{book_of}
use Rattle.book_format.specs.Held.{Accepted}
use Rattle.book_format.specs.Questions.{book_number}

-- the user is a flagged shipper
unfoldable pub flagged_shipper : Limits → Book → User → Bool
flagged_shipper limits b u = shipper u && flagged limits b u

-- the user of an id is the buyer of a trade that warns its buyer
unfoldable pub buyer_is_warned : Limits → Book → ℕ → Trade → Bool
buyer_is_warned limits b id t = eqb t.terms.buyer id && warns limits b t

-- the query that the function `warning` is
abbrev pub warning_of : ℕ → Query
warning_of id = warning id

-- the bytes hold an accepted book, and the prices are that book's
pub record Priced (s : List ℕ) (prices : Prices) : Type 0 where
  pub passes : book_number s ≡ 0
  pub accepted : Accepted s
  pub same : (book_of s).header.prices ≡ as_prices prices
