-- The days of a month: those of a common year are a table's, and February of a leap year has one more. Assumes nothing.
use mathlib.Core.Path.{◌≡◌, refl, ap, ◌∙◌}
use mathlib.Core.Bool.{Bool, true, false, ◌&&◌}
use mathlib.Core.List.{List}
use Prim.Native.Nat.{ℕ, ◌+◌, ◌-◌, ◌≤◌, ◌<◌}
use native.Mathlib.Omega.{arith}
use lib.Dec.{T, eqb, ltb, eqb→eq, ltb→lt}
use lib.ListN.{length, get_or}
use store.Enc.{and_l, and_r}
use borrow.Author.Tests.{eq-eqb, ne_eqb}
use Rattle.rules.specs.Calendar.{leap_year, days_in_month}
use Rattle.calendar.proofs.Table.{every, every_at}

-- The table's rule: at place k stand the days of month k + 1 of the common year 2023, which are below 32.
unfoldable pub is_length : ℕ → ℕ → Bool
is_length k days = eqb days (days_in_month 2023 (k + 1)) && ltb days 32

module _ (table : List ℕ) (right : T (every is_length 0 table)) (month : ℕ) (first : 1 ≤ month) (last : month ≤ length table) where
  -- the rule at a month's place
  is_length_lem : T (is_length (month - 1) (get_or table (month - 1) 0))
  is_length_lem = every_at is_length table right (month - 1) (omega arith)

  -- the entry is the days of the month in a common year
  pub entry_common : get_or table (month - 1) 0 ≡ days_in_month 2023 month
  unfolding is_length
  entry_common =
      eqb→eq _ _ (and_l (eqb (get_or table (month - 1) 0) (days_in_month 2023 (month - 1 + 1))) (ltb (get_or table (month - 1) 0) 32) is_length_lem)
      ∙ ap (days_in_month 2023) (omega arith)

  pub entry_below : get_or table (month - 1) 0 < 32
  unfolding is_length
  entry_below = ltb→lt _ _ (and_r (eqb (get_or table (month - 1) 0) (days_in_month 2023 (month - 1 + 1))) _ is_length_lem)

-- the year of the rule is a common year
common_2023 : leap_year 2023 ≡ false
unfolding leap_year
common_2023 = refl

-- February of a leap year has one day more
pub days_leap_february : (year month : ℕ) → month ≡ 2 → leap_year year ≡ true → days_in_month 2023 month + 1 ≡ days_in_month year month
unfolding days_in_month
days_leap_february year month m y = rw (eq-eqb month 2 m, y, common_2023)

-- every other month of every year is as in a common year
pub days_common_year : (year month : ℕ) → leap_year year ≡ false → days_in_month 2023 month ≡ days_in_month year month
unfolding days_in_month
days_common_year year month y = rw (y, common_2023)

pub days_other_month : (year month : ℕ) → (month ≡ 2 → ⊥) → days_in_month 2023 month ≡ days_in_month year month
unfolding days_in_month
days_other_month year month m = rw (ne_eqb month 2 m)
