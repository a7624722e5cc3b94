-- The questions 9, 11 and 13 of a reduction, the one that refuses a user in each state, and the target where none does. Assumes nothing.
use Rattle.std.specs.Prelude.{◌≡◌, ◌∷◌, Ok, Err, Result}
use Rattle.base.specs.Basics.{List, [], ℕ}
use Rattle.rules.specs.Book.{Book, User}
use Rattle.rules.specs.Calls.{assigned_falls_short, called_in_beyond_margin, is_shipper}
use Rattle.rules.specs.Day.{State, clear, short, call, quiet}
use Rattle.rules.specs.Levels.{Limits, afternoon_level}
use Rattle.rules.specs.Questions.{Question, refusal}
use Rattle.rules.specs.Reduction.{target}
use Rattle.refusals.specs.declared.Refusal.{Refusal}
use Rattle.units.specs.declared.Cents.{Cents}

-- the questions 9, 11 and 13
unfoldable pub level_questions : Limits → Book → User → List Question
level_questions limits b u =
    is_shipper u ∷ (called_in_beyond_margin limits b u ∷ (assigned_falls_short (afternoon_level limits b u) u ∷ []))

-- a clearing house is refused by 9, who is not called in beyond the margin by 11, whose assigned guarantee suffices by 13; who is short of cover by none of these
abbrev pub refused_by_state : State → ℕ
refused_by_state clear = 9
refused_by_state short = 0
refused_by_state call = 13
refused_by_state quiet = 11

-- their number, and the target where it is 0
pub record ShortfallOf (limits : Limits) (b : Book) (u : User) (number asked : ℕ) : Type 0 where
  pub number_is : number ≡ refusal (level_questions limits b u)
  pub target_is : number ≡ 0 → asked ≡ target limits b u

-- the target that is given; 0 where one of them refuses
abbrev pub target_in : Result Cents Refusal → ℕ
target_in (Ok asked) = asked.0
target_in (Err refusal) = 0
