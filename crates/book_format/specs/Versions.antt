-- Document 02's ask 3, "version 1 keeps its reading", of bytes; and version 2 keeps its own. Assumes nothing.
use Rattle.std.specs.Prelude.{◌≡◌, ◌+◌, ◌*◌}
use Rattle.base.specs.Basics.{false, List, ℕ}
use Rattle.fields.specs.Layout.{pack}
use Rattle.rules.specs.Areas.{managers_in}
use Rattle.rules.specs.Book.{Book, User}
use Rattle.book_records.specs.User.{user_bytes}
use Rattle.book_format.specs.Book.{header_bytes, header_values, header_widths, length_by, prices_of, user_record, version_of}

-- a book of version 1 has the length and the header of document 01, and reads without selling tariffs, whatever stands behind its header
pub record KeepsBytes : Type 0 where
  pub size : (users trades : ℕ) → length_by 1 users trades ≡ 32 + 56 * users + 20 * trades
  pub header : (b : Book) → b.header.version ≡ 1 → header_bytes b ≡ pack header_widths (header_values b)
  pub prices : (s : List ℕ) → version_of s ≡ 1 → ((prices_of s).s ≡ 0) × ((prices_of s).u ≡ 0)
  pub size_2 : (users trades : ℕ) → length_by 2 users trades ≡ 40 + 56 * users + 20 * trades
  -- "A record is then 68 bytes": in version 3 alone
  pub size_3 : (users trades : ℕ) → length_by 3 users trades ≡ 40 + 68 * users + 20 * trades
  pub records : (version : ℕ) (u : User) → managers_in version ≡ false → user_record version u ≡ user_bytes u
