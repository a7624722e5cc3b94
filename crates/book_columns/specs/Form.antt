-- Document 02, ask 13: "A book of any version is rearranged: its header with mark `GDF` in place of `GDB`, all ids, all roles, and so on through the user and then the
-- trade fields (each area's number and each run of zero bytes is a field)." A version is its header's size and the widths of its fields. Assumes nothing.
use Rattle.std.specs.Prelude.{◌≡◌, ◌&&◌, ◌++◌, ◌+◌, ◌*◌, ◌≤◌}
use Rattle.base.specs.Basics.{Bool, true, false, cond, List, ℕ, T, eqb, leb, length, take, drop}
use Rattle.rules.specs.Areas.{managers_in}
use Rattle.rules.specs.Questions.{version_known}
use Rattle.fields.specs.Field.{set_field}
use Rattle.columns.specs.Columns.{arranged}
use Rattle.book_records.specs.User.{manager_widths, user_widths}
use Rattle.book_records.specs.Trade.{trade_widths}
use Rattle.book_format.specs.Book.{size_of_header, mark, mark_of, count_of_trades, trade_size, trades_at, count_of_users, size_of_user, version_of}
use Rattle.book_format.specs.Questions.{book_number, sized, versioned}

-- ---- the fields of a version, by their widths

-- id, role, three zero bytes, physical entry in three areas, position in three areas, charges, assigned, blocked; in version 3 a manager in three areas
unfoldable pub user_fields : ℕ → List ℕ
user_fields version = cond (managers_in version) (user_widths ++ manager_widths) user_widths

-- seller, buyer, area, kind, day, a zero byte, notified, standing
unfoldable pub trade_fields : ℕ → List ℕ
trade_fields version = trade_widths

-- ---- the parts of a book, which are those of its form

abbrev pub header_part : List ℕ → List ℕ
header_part s = take (size_of_header (version_of s)) s

abbrev pub users_part : List ℕ → List ℕ
users_part s = take (size_of_user (version_of s) * count_of_users s) (drop (size_of_header (version_of s)) s)

abbrev pub trades_part : List ℕ → List ℕ
trades_part s = drop (trades_at s) s

-- ---- rearranged

-- the mark `GDF` as a number of three bytes
unfoldable pub form_mark : ℕ
form_mark = 0x46_44_47

-- the header with another mark, then users and trades, each arranged
unfoldable pub rearranged : Bool → ℕ → List ℕ → List ℕ
rearranged back new_mark s =
    set_field 3 0 new_mark (header_part s)
    ++ (arranged back (user_fields (version_of s)) (count_of_users s) (users_part s)
    ++ arranged back (trade_fields (version_of s)) (count_of_trades s) (trades_part s))

-- the form of a book
unfoldable pub form_of : List ℕ → List ℕ
form_of s = rearranged false form_mark s

-- the book of a form
unfoldable pub book_from : List ℕ → List ℕ
book_from f = rearranged true mark f

-- ---- which forms are accepted

-- the questions 1 to 3, with the mark of a form: every field then stands where it should
unfoldable pub shaped : List ℕ → Bool
shaped f = (leb 32 (length f) && eqb (mark_of f) form_mark) && (versioned f && sized f)

-- it yields a book that passes the questions 1 to 7
unfoldable pub yields : List ℕ → Bool
yields f = shaped f && eqb (book_number (book_from f)) 0

-- bytes as long as their version and counts ask for, whatever their mark
pub record Laid (s : List ℕ) : Type 0 where
  pub head : 32 ≤ length s
  pub version : T (version_known (version_of s))
  pub some : 1 ≤ count_of_users s
  pub users : count_of_users s ≤ 64
  pub trades : count_of_trades s ≤ 256
  pub whole : length s ≡ trades_at s + trade_size (version_of s) * count_of_trades s
