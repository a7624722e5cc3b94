-- An image is the fields of a book in 9,512 bytes, whatever its version and counts: a header of 40 bytes, then 64 users of 68 bytes and 256
-- trades in the book's format. Where the parts of an image stand is said here alone. Assumes nothing.
use Rattle.std.specs.Prelude.{◌≡◌, ◌++◌, ◌+◌, ◌-◌, ◌*◌}
use Rattle.base.specs.Basics.{List, ℕ, length, take, drop, replicate}
use Rattle.rules.specs.Questions.{after, refusal}
use Rattle.book_format.specs.Book.{version_of, count_of_users, size_of_header, trades_at, size_of_user}
use Rattle.book_format.specs.Questions.{about_bytes, book_number}
use Rattle.book_image.specs.Fitted.{refitted}

-- ---- where the parts stand (abbreviations, so that arithmetic knows the numbers)

-- the users, behind the longest header
abbrev pub image_users_at : ℕ
image_users_at = 40

-- the bytes of a user's record, the longest
abbrev pub image_user_size : ℕ
image_user_size = 68

-- the trades, behind the room for 64 users
abbrev pub image_trades_at : ℕ
image_trades_at = image_users_at + image_user_size * 64

-- the length, with the room for 256 trades
abbrev pub image_size : ℕ
image_size = image_trades_at + 20 * 256

-- ---- a book as an image

-- bytes with 0 behind them, up to a length
unfoldable pub padded : ℕ → List ℕ → List ℕ
padded room s = s ++ replicate (room - length s) 0

-- the header of the book's version; the fields that it lacks are 0
abbrev pub image_header : List ℕ → List ℕ
image_header s = padded image_users_at (take (size_of_header (version_of s)) s)

-- the users' records, each with 0 behind it where the version's is shorter; users and trades: "records past the counts are 0"
abbrev pub image_users : List ℕ → List ℕ
image_users s =
    padded (image_trades_at - image_users_at) (refitted image_user_size (size_of_user (version_of s)) (count_of_users s) (drop (size_of_header (version_of s)) s))

abbrev pub image_trades : List ℕ → List ℕ
image_trades s = padded (image_size - image_trades_at) (drop (trades_at s) s)

-- the whole
unfoldable pub image_of : List ℕ → List ℕ
image_of s = image_header s ++ (image_users s ++ image_trades s)

-- a refusal returns "every other field 0"
unfoldable pub read_image : List ℕ → List ℕ
read_image s = after (refusal (about_bytes s)) (λ n. replicate image_size 0) (image_of s)

-- bytes that were asked the questions 1 to 7: the number, and the whole image
pub record ImageRead (s : List ℕ) (number : ℕ) (image : List ℕ) : Type 0 where
  pub asked : number ≡ book_number s
  pub fields : image ≡ read_image s
