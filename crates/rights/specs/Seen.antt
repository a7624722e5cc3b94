-- Document 02, ask 9: what a party may see of a book in bytes, record by record in book order. Assumes nothing.
use Rattle.std.specs.Prelude.{◌≡◌}
use Rattle.base.specs.Basics.{List, ℕ, drop, take}
use Rattle.book_format.specs.Book.{size_of_header, count_of_trades, trade_size, trades_at, count_of_users, size_of_user, users_of, version_of}
use Rattle.book_format.specs.Questions.{parts_of}
use Rattle.book_records.specs.Trade.{trade_of}
use Rattle.book_records.specs.User.{user_of}
use Rattle.laws_sales.specs.Kept.{kept}
use Rattle.views.specs.Views.{sees_trade, sees_user}

-- "agree on the header": its bytes, with both counts
unfoldable pub header_shown : List ℕ → List ℕ
header_shown s = take (size_of_header (version_of s)) s

-- "in book order, on what a party may see": the bytes of each record
unfoldable pub users_shown : ℕ → List ℕ → List (List ℕ)
users_shown party s =
    kept (λ c. sees_user party (user_of c)) (parts_of (size_of_user (version_of s)) (count_of_users s) (drop (size_of_header (version_of s)) s))

-- and the bytes of each trade
unfoldable pub trades_shown : ℕ → List ℕ → List (List ℕ)
trades_shown party s =
    kept (λ c. sees_trade (users_of s) party (trade_of c)) (parts_of (trade_size (version_of s)) (count_of_trades s) (drop (trades_at s) s))

-- two books that "agree on the header and, in book order, on what a party may see"
pub record Agree (party : ℕ) (s t : List ℕ) : Type 0 where
  pub header : header_shown s ≡ header_shown t
  pub users : users_shown party s ≡ users_shown party t
  pub trades : trades_shown party s ≡ trades_shown party t
