-- A reduction on arrays: the room that it needs, what stays through it, and the book that it starts from. Assumes nothing.
use Rattle.std.specs.Prelude.{◌≡◌, ◌+◌, ◌*◌, ◌≤◌, ◌<◌, ◌^◌}
use Rattle.base.specs.Basics.{Bool, List, ℕ, ltb, length, get_or}
use Rattle.book_format.specs.Book.{book_of}
use Rattle.base.specs.Parts.{neg_part}
use Rattle.laws.specs.Sound.{Sound}
use Rattle.laws.specs.Trades.{Lowered, Pairwise}
use Rattle.laws_sales.specs.Borne.{borne_book}
use Rattle.risk_bearers.specs.Bearers.{RiskIn}
use Rattle.risk_user.specs.UserAt.{PositionsOf, position_in}
use Rattle.rules.specs.Areas.{Prices}
use Rattle.rules.specs.Book.{Book}
use Rattle.rules.specs.Levels.{Limits}
use Rattle.rules.specs.Reduction.{with_trades}
use Rattle.run_state.specs.Going.{SalesIn, StandingIn}

-- ---- numbers

-- the position of the user at a place is negative in the area
abbrev pub short_in : List ℕ → ℕ → ℕ → Bool
short_in ps place area = ltb 0 (neg_part (position_in ps place area))

-- the sales from..to of the user at a place: areas and places of buyers; the positions that their cuts move have room for 256 of them
pub record Reducible (place from to : ℕ) (areas bs ps : List ℕ) : Type 0 where
  pub rising : from ≤ to
  pub buyers_room : length bs ≡ 256
  pub room : length ps ≡ 192
  pub place_in : place < 64
  pub buyer_in : (k : ℕ) → from ≤ k → k < to → get_or bs k 0 < 64
  pub low : (k : ℕ) → from ≤ k → k < to → 51200000 ≤ get_or ps (3 * get_or bs k 0 + get_or areas k 0) 0
  pub high : (k : ℕ) → from ≤ k → k < to → get_or ps (3 * place + get_or areas k 0) 0 + 51200000 < 2 ^ 32

-- ---- books

-- what stays: the risk of a book in bytes, and as it is borne where the own sales of each user start, their areas and the places of their buyers
pub record RunOf (limits : Limits) (f : Prices) (s sums ss area_codes bs : List ℕ) : Type 0 where
  pub risk : RiskIn limits f s sums
  pub sales : SalesIn (borne_book (book_of s)) ss area_codes bs

-- what stands and the positions are those of the book b as its risk is borne, to which reductions of the book o have led
pub record Reached (o b : Book) (ns ps : List ℕ) : Type 0 where
  pub sound : Sound b
  pub lowered : Pairwise Lowered o.trades b.trades
  pub borne : Pairwise Lowered (borne_book o).trades (borne_book b).trades
  pub same : b ≡ with_trades o b.trades
  pub standing : StandingIn (borne_book o) (borne_book b) ns
  pub positions : PositionsOf (borne_book b).users ps
  pub standing_room : length ns ≡ 256
  pub positions_room : length ps ≡ 192
