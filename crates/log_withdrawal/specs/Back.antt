-- Cuts given back at the places of the parties, and positions that they can move. Assumes nothing.
use Rattle.std.specs.Prelude.{◌≤◌, ◌<◌}
use Rattle.base.specs.Basics.{List, ℕ, pos, neg_ℤ, get_or, set}
use Rattle.book_format.specs.Book.{book_of, trades_of, count_of_users, users_of}
use Rattle.book_format.specs.Held.{HeldAs}
use Rattle.book_format.specs.Places.{TradeIn}
use Rattle.base.specs.Parts.{neg_part, pos_part}
use Rattle.cut_apply.specs.Positions.{PositionIn, moved_at, position_of}
use Rattle.log_format.specs.Withdrawal.{raise_by}
use Rattle.rules.specs.Book.{Book, User, no_trade}

-- the users after a cut in an area is given back, by the places of its seller, whose position falls, and of its buyer, whose position rises
abbrev pub back_at : ℕ → ℕ → ℕ → ℕ → List User → List User
back_at seller buyer area c us = moved_at buyer area (pos c) (moved_at seller area (neg_ℤ (pos c)) us)

-- every position is within a number of MWh
pub record Bounded (us : List User) (most : ℕ) : Type 0 where
  pub long : (i area : ℕ) → pos_part (position_of us i area) ≤ most
  pub short : (i area : ℕ) → neg_part (position_of us i area) ≤ most

-- two users of a book in bytes whose positions can move by an energy
pub record PartiesBack (s : List ℕ) (seller buyer area energy : ℕ) : Type 0 where
  pub sold : PositionIn s seller area
  pub buyer_inside : buyer < count_of_users s
  pub most : Bounded (users_of s) 100000000
  pub energy_most : energy ≤ 100000

-- a trade of a book in bytes, between users at two places, whose cut can be given back
pub record BackIn (s : List ℕ) (at seller buyer place cut : ℕ) : Type 0 where
  pub held : HeldAs (book_of s) s
  pub trade : TradeIn s at place
  pub parties : PartiesBack s seller buyer (get_or (trades_of s) place no_trade).terms.area cut
  pub stands : (get_or (trades_of s) place no_trade).standing ≤ 100000

-- the book with the cut of the trade at a place given back
unfoldable pub back_to : Book → ℕ → ℕ → ℕ → ℕ → Book
back_to b seller buyer place cut =
    let t = get_or b.trades place no_trade in
    record { header = b.header; users = back_at seller buyer t.terms.area cut b.users; trades = set b.trades place (raise_by cut t) }
