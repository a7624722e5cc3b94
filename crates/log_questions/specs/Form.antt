-- Bytes that have the form of a log, and sums of cuts by trade place. Assumes nothing.
use Rattle.std.specs.Prelude.{◌≡◌, ◌≤◌}
use Rattle.base.specs.Basics.{List, ℕ, length, get_or, drop}
use Rattle.fields.specs.Field.{field}
use Rattle.fields.specs.Layout.{records_of}
use Rattle.log_format.specs.Log.{cut_size, count_of_entries, held_length, held_room, log_size, most_entries}

-- bytes of a log's length, whose entry count and length of the held book are in range
pub record LogFormed (l : List ℕ) : Type 0 where
  pub size : length l ≡ log_size
  pub count : count_of_entries l ≤ most_entries
  pub held : held_length l ≤ held_room

-- the cuts of m trades that stand in bytes from an offset
abbrev pub cuts_from : ℕ → ℕ → List ℕ → List ℕ
cuts_from m at l = records_of cut_size (field cut_size 0) m (drop at l)

-- sums of cuts for 256 places, none above a number
pub record Sums (xs : List ℕ) (most : ℕ) : Type 0 where
  pub room : length xs ≡ 256
  pub each : (k : ℕ) → get_or xs k 0 ≤ most
