-- The levels and the state of every user of a book in one answer: documents 01 and 02 ask for them user by user. A book is asked its questions once for all of them.
-- Assumes nothing.
use Rattle.std.specs.Prelude.{◌++◌, ◌-◌}
use Rattle.base.specs.Basics.{cond, List, map, ℕ, length, replicate}
use Rattle.rules.specs.Book.{Book, User}
use Rattle.rules.specs.Day.{State, clear, printed_level, state}
use Rattle.rules.specs.Levels.{Limits, morning_level, shipper}
use Rattle.rules.specs.Questions.{after}
use Rattle.book_format.specs.Book.{book_of}
use Rattle.book_format.specs.Questions.{book_number}
use Rattle.requests.specs.Request.{Setting, limits_on, opening}
use Rattle.rights.specs.Acting.{entering_number}
use Rattle.rights.specs.Party.{Party, operators}

-- ---- of one user

-- its id, its state as on the printed day, and its two levels; a clearing house has the state `clear` and no level, which is 0
pub record UserLevels : Type 0 where
  pub id : ℕ
  pub state : State
  pub morning : ℕ
  pub afternoon : ℕ

-- a place past the last user: no id is 0
unfoldable pub no_user : UserLevels
no_user = record { id = 0; state = clear; morning = 0; afternoon = 0 }

-- ---- of all

-- the number, and "in book order" a row for each of the 64 users that a book can have
pub record AllLevels : Type 0 where
  pub number : ℕ
  pub users : List UserLevels

-- "A refusal returns the number with every other field 0"
unfoldable pub no_levels : ℕ → AllLevels
no_levels n = record { number = n; users = replicate 64 no_user }

module _ (limits : Limits) (b : Book) where
  unfoldable pub levels_of : User → UserLevels
  levels_of u =
      record { id = u.party.id; state = state limits b u; morning = cond (shipper u) (morning_level limits b u) 0; afternoon = printed_level limits b u }

  unfoldable pub user_rows : List UserLevels
  user_rows = map levels_of b.users ++ replicate (64 - length b.users) no_user

  unfoldable pub levels_in : AllLevels
  levels_in = record { number = 0; users = user_rows }

-- ---- on a book in bytes

-- after the opening questions, by their number
unfoldable pub levels_after : ℕ → Limits → List ℕ → AllLevels
levels_after number limits s = after number no_levels (levels_in limits (book_of s))

-- in a setting, after the questions up to 7 or 26, whose number is n: 16 and 17, and no other
unfoldable pub all_levels_after : ℕ → Setting → List ℕ → AllLevels
all_levels_after n g s = levels_after (opening n g s) (limits_on g (book_of s)) s

-- without a party: after 1 to 7
abbrev pub all_levels : Setting → List ℕ → AllLevels
all_levels g s = all_levels_after (book_number s) g s

-- by an acting party: "All else is the operator's", 26 "asked directly after question 7". A shipper is told its own levels by the calls for its id: in a list of all users the
-- place of its row would tell how many others stand before it, which it may not see
abbrev pub all_levels_by : Party → Setting → List ℕ → AllLevels
all_levels_by actor g s = all_levels_after (entering_number actor operators s) g s
