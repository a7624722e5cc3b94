-- A user of an accepted book: what its row is, of a clearing house and of a shipper; the rows of all, after the opening questions. Assumes nothing.
use Rattle.base.specs.Basics.{◌≡◌, refl, List, ℕ, suc, zero, ◌<◌, eq-eqb, ne_eqb}
use Rattle.book_format.specs.Book.{book_of, count_of_users}
use Rattle.book_format.specs.Places.{UserIn}
use Rattle.rules.specs.Book.{Book, User}
use Rattle.rules.specs.Day.{State, clear, printed_level, state}
use Rattle.rules.specs.Levels.{Limits, afternoon_level, morning_level, shipper}
use Rattle.rules.specs.Questions.{after}
use Rattle.user_levels.specs.Levels.{AllLevels, UserLevels, levels_after, levels_in, levels_of, no_levels, user_rows}
use Rattle.book_questions.specs.Opened.{OpenedFigures}

pub user_in : {limits : Limits} {s : List ℕ} {place : ℕ} → OpenedFigures limits s → place < count_of_users s → UserIn s place
user_in p h = record { form = p.accepted.held.form; inside = h }

module _ (limits : Limits) (b : Book) (u : User) {id : ℕ} (own : id ≡ u.party.id) where
  -- a clearing house
  pub row_of_house : (u.party.role ≡ 0 → ⊥) → ◌≡◌ {A = UserLevels} (record { id = id; state = clear; morning = 0; afternoon = 0 }) (levels_of limits b u)
  unfolding levels_of state printed_level shipper
  row_of_house h = rw (own, ne_eqb u.party.role 0 h)

  -- a shipper
  pub row_of_shipper : u.party.role ≡ 0 → {z : State} {m a : ℕ} → z ≡ state limits b u → m ≡ morning_level limits b u → a ≡ afternoon_level limits b u
      → ◌≡◌ {A = UserLevels} (record { id = id; state = z; morning = m; afternoon = a }) (levels_of limits b u)
  unfolding levels_of printed_level shipper
  row_of_shipper h {z} {m} {a} hz hm ha = rw (own, hz, hm, ha, eq-eqb u.party.role 0 h)

-- ---- all

module _ (limits : Limits) (s : List ℕ) where
  -- where a question refuses
  pub levels_refused : (n : ℕ) → (n ≡ 0 → ⊥) → no_levels n ≡ levels_after n limits s
  unfolding levels_after after
  levels_refused zero h = absurd (h refl)
  levels_refused (suc n) h = refl

  -- where none does
  pub levels_found : {rows : List UserLevels} → rows ≡ user_rows limits (book_of s) → ◌≡◌ {A = AllLevels} (record { number = 0; users = rows }) (levels_after 0 limits s)
  unfolding levels_after after levels_in
  levels_found e = rw e
