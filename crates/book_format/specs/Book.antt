-- Document 01, "The book in bytes", with versions 2 and 3 of document 02's asks 3 and 5: the book that bytes hold, and the bytes of a book. The sizes by version are said here, a record's fields in `book_records`. Assumes nothing.
use Rattle.std.specs.Prelude.{◌∷◌, ◌++◌, ◌+◌, ◌*◌}
use Rattle.base.specs.Basics.{cond, List, [], ℕ, length, drop}
use Rattle.rules.specs.Areas.{Prices, managers_in, selling_in}
use Rattle.rules.specs.Book.{User, Trade, Book}
use Rattle.fields.specs.Field.{field}
use Rattle.fields.specs.Layout.{pack, records_of, bytes_of_records}
use Rattle.book_records.specs.User.{record_bytes, record_size, user_of}
use Rattle.book_records.specs.Trade.{trade_of, trade_bytes}

-- ---- sizes in bytes, by the version of the book

-- "Version 2 of the book has a 40-byte header", and "Version 3 reads as version 2"
unfoldable pub size_of_header : ℕ → ℕ
size_of_header version = cond (selling_in version) 40 32

-- "A record is then 68 bytes", in version 3
unfoldable pub size_of_user : ℕ → ℕ
size_of_user version = record_size (managers_in version)

abbrev pub trade_size : ℕ → ℕ
trade_size version = 20

-- the length of a book: "exactly 32 + 56 × users + 20 × trades", of versions 2 and 3 with their header, of version 3 with its records
unfoldable pub length_by : ℕ → ℕ → ℕ → ℕ
length_by version users trades = size_of_header version + size_of_user version * users + trade_size version * trades

-- ---- the header: mark `GDB`, version, user count, trade count, date, P, Q, L, X, I; from version 2 on also S and U

unfoldable pub header_widths : List ℕ
header_widths = 3 ∷ 2 ∷ 1 ∷ 2 ∷ 4 ∷ 4 ∷ 4 ∷ 4 ∷ 4 ∷ 4 ∷ []

-- "after I come the daily selling tariffs, S for PVB and U for the other two areas, 32 bits each"
unfoldable pub selling_widths : List ℕ
selling_widths = 4 ∷ 4 ∷ []

-- the mark `GDB` as a number of three bytes
unfoldable pub mark : ℕ
mark = 0x42_44_47

unfoldable pub mark_of : List ℕ → ℕ
mark_of s = field 3 0 s

unfoldable pub version_of : List ℕ → ℕ
version_of s = field 2 3 s

unfoldable pub count_of_users : List ℕ → ℕ
count_of_users s = field 1 5 s

unfoldable pub count_of_trades : List ℕ → ℕ
count_of_trades s = field 2 6 s

-- ---- the book that bytes hold

-- where the user at a place stands
unfoldable pub place_of_user : List ℕ → ℕ → ℕ
place_of_user s place = size_of_header (version_of s) + size_of_user (version_of s) * place

-- where the trades begin, behind the last user
unfoldable pub trades_at : List ℕ → ℕ
trades_at s = place_of_user s (count_of_users s)

-- the length that version and counts ask for
unfoldable pub length_of : List ℕ → ℕ
length_of s = length_by (version_of s) (count_of_users s) (count_of_trades s)

unfoldable pub users_of : List ℕ → List User
users_of s = records_of (size_of_user (version_of s)) user_of (count_of_users s) (drop (size_of_header (version_of s)) s)

unfoldable pub trades_of : List ℕ → List Trade
trades_of s = records_of (trade_size (version_of s)) trade_of (count_of_trades s) (drop (trades_at s) s)

-- a selling tariff at an offset; 0 in a version that has none
unfoldable pub selling_tariff_at : ℕ → List ℕ → ℕ
selling_tariff_at at s = cond (selling_in (version_of s)) (field 4 at s) 0

-- P, Q, L, X, I, S, U
unfoldable pub prices_of : List ℕ → Prices
prices_of s =
    record {
      p = field 4 12 s;
      q = field 4 16 s;
      l = field 4 20 s;
      x = field 4 24 s;
      i = field 4 28 s;
      s = selling_tariff_at 32 s;
      u = selling_tariff_at 36 s;
    }

unfoldable pub book_of : List ℕ → Book
book_of s =
    record {
      header = record { version = version_of s; date = field 4 8 s; prices = prices_of s };
      users = users_of s;
      trades = trades_of s;
    }

-- ---- the bytes of a book

unfoldable pub header_values : Book → List ℕ
header_values b =
    let h = b.header in
    mark
    ∷ h.version
    ∷ length b.users
    ∷ length b.trades
    ∷ h.date
    ∷ h.prices.p
    ∷ h.prices.q
    ∷ h.prices.l
    ∷ h.prices.x
    ∷ h.prices.i
    ∷ []

-- a version without selling tariffs has no bytes for them
unfoldable pub selling_bytes : ℕ → Prices → List ℕ
selling_bytes version f = cond (selling_in version) (pack selling_widths (f.s ∷ f.u ∷ [])) []

unfoldable pub header_bytes : Book → List ℕ
header_bytes b = pack header_widths (header_values b) ++ selling_bytes b.header.version b.header.prices

-- a user's record in a version
unfoldable pub user_record : ℕ → User → List ℕ
user_record version u = record_bytes (managers_in version) u

unfoldable pub bytes_of : Book → List ℕ
bytes_of b = header_bytes b ++ (bytes_of_records (user_record b.header.version) b.users ++ bytes_of_records trade_bytes b.trades)
