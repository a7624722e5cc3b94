-- What is claimed of the levels of all users: each row is what the calls for that user's id tell; and who is told. Assumes nothing.
use Rattle.std.specs.Prelude.{◌≡◌, ◌<◌, ◌≤◌}
use Rattle.base.specs.Basics.{Bool, false, cond, none, List, ℕ, suc, get_or, length}
use Rattle.rules.specs.Book.{User, nobody}
use Rattle.rules.specs.Day as day
use Rattle.rules.specs.Levels.{shipper}
use Rattle.rules.specs.Queries.{Reply, afternoon_level_of, morning_level_of}
use Rattle.book_format.specs.Book.{book_of}
use Rattle.book_format.specs.Questions.{book_number}
use Rattle.requests.specs.Request.{Setting, limits_on}
use Rattle.rights.specs.Acting.{enquiry_by}
use Rattle.rights.specs.Party.{Party, operator, shipper_of}
use Rattle.rights.specs.Seen.{Agree}
use Rattle.user_levels.specs.Levels.{UserLevels, all_levels, all_levels_by, no_levels, no_user}

-- ---- each row

-- what a call for a level answers: the level, and as its number 0, or of a clearing house 9
unfoldable pub level_reply : Bool → ℕ → Reply
level_reply ships level = record { number = cond ships 0 9; level = level; warned = false; shown = none }

-- a row is its user's: what the operator's calls for the user's id answer, and the state of the printed day
pub record RowOf (g : Setting) (s : List ℕ) (u : User) (row : UserLevels) : Type 0 where
  pub id : row.id ≡ u.party.id
  pub morning : enquiry_by operator g s (morning_level_of u.party.id) ≡ level_reply (shipper u) row.morning
  pub afternoon : enquiry_by operator g s (afternoon_level_of u.party.id) ≡ level_reply (shipper u) row.afternoon
  pub state : row.state ≡ day.state (limits_on g (book_of s)) (book_of s) u

pub record RowsClaim : Type 0 where
  -- in book order a row for each user,
  pub row : (g : Setting) (s : List ℕ) → (all_levels g s).number ≡ 0 → (i : ℕ) → i < length (book_of s).users
      → RowOf g s (get_or (book_of s).users i nobody) (get_or (all_levels g s).users i no_user)
  -- and none past the last
  pub past : (g : Setting) (s : List ℕ) → (all_levels g s).number ≡ 0 → (i : ℕ) → length (book_of s).users ≤ i → get_or (all_levels g s).users i no_user ≡ no_user

-- ---- who is told

pub record LevelsBy : Type 0 where
  -- the operator's are those without a party
  pub of_operator : (g : Setting) (s : List ℕ) → all_levels_by operator g s ≡ all_levels g s
  -- a shipper is refused with 26, whatever the book that passes its questions holds,
  pub of_shipper : (party : ℕ) (g : Setting) (s : List ℕ) → book_number s ≡ 0 → all_levels_by (shipper_of party) g s ≡ no_levels 26
  -- and so is told nothing of what it may not see
  pub agreed : (party : ℕ) (g : Setting) (s t : List ℕ) → book_number s ≡ 0 → book_number t ≡ 0 → Agree party s t → all_levels_by (shipper_of party) g s ≡ all_levels_by (shipper_of party) g t
  -- a book that fails a question gives its number, whoever asks
  pub book_first : (actor : Party) (g : Setting) (s : List ℕ) (n : ℕ) → book_number s ≡ suc n → all_levels_by actor g s ≡ no_levels (suc n)
  -- what returns 0 was asked by the operator
  pub accepted : (actor : Party) (g : Setting) (s : List ℕ) → (all_levels_by actor g s).number ≡ 0 → actor ≡ operator
