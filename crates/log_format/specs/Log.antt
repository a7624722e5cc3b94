-- Document 02, ask 6: the log of reductions in bytes. What bytes of it hold, and the bytes of entries and a held book. Assumes nothing.
use Rattle.std.specs.Prelude.{◌∷◌, ◌++◌, ◌+◌, ◌-◌, ◌*◌}
use Rattle.base.specs.Basics.{List, [], ℕ, zero, suc, length, take, drop, replicate}
use Rattle.fields.specs.Field.{field, to_bytes}
use Rattle.fields.specs.Layout.{pack, records_of, bytes_of_records}
use Rattle.book_format.specs.Book.{count_of_trades}

-- ---- sizes in bytes

-- "mark `GDL`, a zero byte, entry count and held book's length (32 bits each)": the held book begins behind them
abbrev pub held_at : ℕ
held_at = 12

-- "the book as the last call given the log left it (9,512 bytes)"
abbrev pub held_room : ℕ
held_room = 9512

-- "and 256 entries": they begin behind the held book's room
abbrev pub entries_at : ℕ
entries_at = 9524

abbrev pub most_entries : ℕ
most_entries = 256

-- "of 256 cuts by trade place (32 bits each)"
abbrev pub entry_size : ℕ
entry_size = 1024

abbrev pub cut_size : ℕ
cut_size = 4

-- all entries together
abbrev pub entries_room : ℕ
entries_room = 262144

-- the whole log
abbrev pub log_size : ℕ
log_size = 271668

-- ---- what a log holds

-- the mark `GDL` as a number of three bytes
unfoldable pub log_mark : ℕ
log_mark = 0x4C_44_47

unfoldable pub log_mark_of : List ℕ → ℕ
log_mark_of l = field 3 0 l

-- "a zero byte"
unfoldable pub log_zero : List ℕ → ℕ
log_zero l = field 1 3 l

-- "entry count and held book's length (32 bits each)"
unfoldable pub count_of_entries : List ℕ → ℕ
count_of_entries l = field 4 4 l

unfoldable pub held_length : List ℕ → ℕ
held_length l = field 4 8 l

-- the held book
unfoldable pub held_of : List ℕ → List ℕ
held_of l = take (held_length l) (drop held_at l)

-- where the entry at a place begins
unfoldable pub entry_at : ℕ → ℕ
entry_at place = entries_at + entry_size * place

-- the cuts of the first m trades in the entry at a place
unfoldable pub cuts_at : ℕ → List ℕ → ℕ → List ℕ
cuts_at m l place = records_of cut_size (field cut_size 0) m (drop (entry_at place) l)

-- the first n entries. They stand "oldest first" in the bytes; a list of entries has the newest first, as withdrawals take them.
unfoldable pub entries_in : ℕ → ℕ → List ℕ → List (List ℕ)
entries_in m zero l = []
entries_in m (suc n) l = cuts_at m l n ∷ entries_in m n l

-- the entries of a log for a book in bytes: of each its trades' cuts
unfoldable pub entries_of : List ℕ → List ℕ → List (List ℕ)
entries_of s l = entries_in (count_of_trades s) (count_of_entries l) l

-- ---- the bytes of a log

-- "unused bytes are 0": bytes with 0 behind them, up to their room
unfoldable pub padded : ℕ → List ℕ → List ℕ
padded room s = s ++ replicate (room - length s) 0

-- cuts, 32 bits each
unfoldable pub cut_bytes : List ℕ → List ℕ
cut_bytes cs = bytes_of_records (to_bytes cut_size) cs

-- an entry: the cuts of the trades, 0 past them
unfoldable pub entry_bytes : List ℕ → List ℕ
entry_bytes cs = padded entry_size (cut_bytes cs)

-- "256 entries, oldest first"
unfoldable pub entries_bytes : List (List ℕ) → List ℕ
entries_bytes [] = []
entries_bytes (cs ∷ es) = entries_bytes es ++ entry_bytes cs

-- "mark `GDL`, a zero byte, entry count and held book's length (32 bits each)"
unfoldable pub log_head : ℕ → ℕ → List ℕ
log_head count held = pack (3 ∷ 1 ∷ 4 ∷ 4 ∷ []) (log_mark ∷ 0 ∷ count ∷ held ∷ [])

-- a log of entries, newest first, that holds a book
unfoldable pub log_bytes : List (List ℕ) → List ℕ → List ℕ
log_bytes es s =
    log_head (length es) (length s) ++ (padded held_room s ++ padded entries_room (entries_bytes es))
