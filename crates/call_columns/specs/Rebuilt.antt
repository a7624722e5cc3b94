-- A book that is rebuilt from its form in a room for the longest book. Assumes nothing.
use Rattle.std.specs.Prelude.{◌≡◌, ◌+◌, ◌*◌, ◌≤◌}
use Rattle.base.specs.Basics.{Bool, List, ℕ, T, length, take}
use Rattle.book_columns.specs.Form.{book_from, yields}

-- the bytes of the longest book: a header of 40 bytes, 64 users, 256 trades
abbrev pub longest : ℕ
longest = 40 + 68 * 64 + 20 * 256

-- whether a form yields an accepted book, and where it does, that book at the front of the room
pub record Rebuilt (f : List ℕ) (accepted : Bool) (room : List ℕ) : Type 0 where
  pub answer : accepted ≡ yields f
  pub fits : T accepted → length f ≤ length room
  pub book : T accepted → take (length f) room ≡ book_from f
