-- The book of an image's fields: of its header and its users' records those that its version has, of its 64 users and 256 trades those up to the counts. Assumes nothing.
use Rattle.std.specs.Prelude.{◌≡◌, ◌≤◌}
use Rattle.base.specs.Basics.{List, ℕ, length, take, drop}
use Rattle.rules.specs.Book as model
use Rattle.fields.specs.Layout.{records_of}
use Rattle.book_records.specs.User.{user_of}
use Rattle.book_records.specs.Trade.{trade_of}
use Rattle.book_format.specs.Book.{count_of_users, count_of_trades, size_of_user, version_of, book_of}
use Rattle.book_image.specs.Image.{image_users_at, image_user_size, image_trades_at, image_size}

-- the user of a record in an image, in a version: what the version lacks is 0 whatever stands there
unfoldable pub image_user_of : ℕ → List ℕ → model.User
image_user_of version c = user_of (take (size_of_user version) c)

-- the book that an image's fields are: its header, where what a version lacks is 0 whatever stands there, and its records up to the counts
unfoldable pub image_book : List ℕ → model.Book
image_book s =
    record {
      header = (book_of s).header;
      users = take (count_of_users s) (records_of image_user_size (image_user_of (version_of s)) 64 (drop image_users_at s));
      trades = take (count_of_trades s) (records_of 20 trade_of 256 (drop image_trades_at s));
    }

-- an image whose counts are n users and m trades, in range
pub record CountsOf (s : List ℕ) (n m : ℕ) : Type 0 where
  pub whole : length s ≡ image_size
  pub users : n ≡ count_of_users s
  pub trades : m ≡ count_of_trades s
  pub some : 1 ≤ n
  pub few : n ≤ 64
  pub many : m ≤ 256
