-- Who bears whose risk, by places, in a table: 3·place + area, for each user and area the place of who bears its risk there. Trades and users as their risk is borne by such a table. Assumes nothing.
use Rattle.std.specs.Prelude.{◌≡◌, ◌+◌, ◌*◌, ◌<◌}
use Rattle.base.specs.Basics.{List, ℕ, length, take, get_or}
use Rattle.book_format.specs.Book.{book_of, trades_of, count_of_users, users_of}
use Rattle.book_format.specs.Held.{Accepted}
use Rattle.book_parties.specs.Ids.{Padded, Placed, ids_of, place_in}
use Rattle.book_questions.specs.Opened.{OpenedFigures}
use Rattle.book_sums.specs.Twelve.{SumsOf, TwelveOf}
use Rattle.laws_sales.specs.Borne.{borne_book}
use Rattle.rules.specs.Areas.{Prices}
use Rattle.rules.specs.Bearers.{bearer}
use Rattle.rules.specs.Book.{Trade, User, no_trade, nobody}
use Rattle.rules.specs.Levels.{Limits}

-- ---- the book that bytes hold, as its risk is borne

abbrev pub users_in : List ℕ → List User
users_in s = (borne_book (book_of s)).users

abbrev pub trades_in : List ℕ → List Trade
trades_in s = (borne_book (book_of s)).trades

-- bytes hold an accepted book; the places of those who bear the risk of the sellers and of the buyers of its trades
pub record BorneIn (s sellers buyers : List ℕ) : Type 0 where
  pub accepted : Accepted s
  pub placed : Placed (users_in s) (trades_in s) sellers buyers

-- what levels and targets are asked of: a book that passed its questions, figures, its prices, and as the risk is borne the twelve sums of each user
pub record RiskIn (limits : Limits) (f : Prices) (s sums : List ℕ) : Type 0 where
  pub opened : OpenedFigures limits s
  pub prices_are : f ≡ (book_of s).header.prices
  pub sums_are : SumsOf (users_in s) (trades_in s) sums

-- ---- by a table

-- the ids of n users in a list of 64
pub record IdsOf (us : List User) (n : ℕ) (ids : List ℕ) : Type 0 where
  pub padded : Padded ids n
  pub listed : take n ids ≡ ids_of us

-- the place of who bears each user's risk in each area
pub record BearersOf (us : List User) (table : List ℕ) : Type 0 where
  pub room : length table ≡ 192
  pub each : (i area : ℕ) → i < length us → area < 3 → get_or table (3 * i + area) 0 ≡ place_in (ids_of us) (bearer (get_or us i nobody) area)

-- a place of a table of n users for each of them and area
pub record BearersIn (n : ℕ) (table : List ℕ) : Type 0 where
  pub room : length table ≡ 192
  pub inside : (i area : ℕ) → i < n → area < 3 → get_or table (3 * i + area) 0 < n

-- who bears the risk of the user at a place in an area
abbrev pub bearer_in : List ℕ → ℕ → ℕ → ℕ
bearer_in table place area = get_or table (3 * place + area) 0

-- a trade as it is borne: between those who bear the risk of its parties in its area
pub record BorneAs (ids table : List ℕ) (t r : Trade) : Type 0 where
  pub area : r.terms.area ≡ t.terms.area
  pub day : r.terms.day ≡ t.terms.day
  pub standing : r.standing ≡ t.standing
  pub seller : place_in ids r.terms.seller ≡ bearer_in table (place_in ids t.terms.seller) t.terms.area
  pub buyer : place_in ids r.terms.buyer ≡ bearer_in table (place_in ids t.terms.buyer) t.terms.area

-- trades as they are borne
pub record AllBorne (ids table : List ℕ) (ts rs : List Trade) : Type 0 where
  pub same : length rs ≡ length ts
  pub each : (i : ℕ) → i < length ts → BorneAs ids table (get_or ts i no_trade) (get_or rs i no_trade)

-- bytes hold a book, some trades are its trades as they are borne
pub record Bearing (s table : List ℕ) : Type 0 where
  pub bearers : BearersIn (count_of_users s) table
  pub trades : List Trade
  pub borne : AllBorne (ids_of (users_of s)) table (trades_of s) trades

-- the places of those who bear the risk of the parties, and the twelve sums of what stands at these
pub record SummedAt (us : List User) (rs : List Trade) (sellers buyers sums : List ℕ) : Type 0 where
  pub placed : Placed us rs sellers buyers
  pub twelve : TwelveOf us rs sums
