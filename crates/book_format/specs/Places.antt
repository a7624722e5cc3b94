-- Bytes with a header, and with a user, or a trade, at a place. Assumes nothing.
use Rattle.std.specs.Prelude.{◌≡◌, ◌+◌, ◌*◌, ◌<◌, ◌≤◌}
use Rattle.base.specs.Basics.{List, ℕ, length}
use Rattle.book_format.specs.Book.{size_of_header, count_of_trades, trades_at, place_of_user, count_of_users, version_of}
use Rattle.book_format.specs.Questions.{Formed}

-- bytes are long enough for the header of their version
pub record HeaderIn (s : List ℕ) : Type 0 where
  pub start : 32 ≤ length s
  pub whole : size_of_header (version_of s) ≤ length s

-- bytes hold a book with a user at a place
pub record UserIn (s : List ℕ) (place : ℕ) : Type 0 where
  pub form : Formed s
  pub inside : place < count_of_users s

-- where the position of the user at a place stands, of an area
unfoldable pub position_at : List ℕ → ℕ → ℕ → ℕ
position_at s place area = place_of_user s place + (20 + 4 * area)

-- bytes hold a book whose trades begin at an offset, with a trade at a place
pub record TradeIn (s : List ℕ) (at place : ℕ) : Type 0 where
  pub form : Formed s
  pub begin : at ≡ trades_at s
  pub inside : place < count_of_trades s
