-- The days of a common year, and one more where the month is February and the year a leap year.
use Rattle.std.proofs.Common.{◌∙◌, sym, ap, ◌+◌}
use Rattle.calendar.proofs.Months.{days_leap_february, days_common_year, days_other_month}
use Rattle.calendar.proofs.month_length.Goals as goal
use Rattle.calendar.proofs.month_length.Goals.{else-month-eq2-via-then-month-eq2+else-leap, else-month-eq2-via-else-month-eq2}

pub returns-then-leap : goal.returns-then-leap
returns-then-leap c =
    ap (λ n. n + 1) c.common_length-days.ensures.0
    ∙ days_leap_february _ _ c.if-month-eq2.true (sym c.leap.ensures ∙ c.if-leap.true)

pub returns-else-month-eq2 : goal.returns-else-month-eq2
returns-else-month-eq2 c =
    elim c.else-month-eq2.branch [
      | else-month-eq2-via-then-month-eq2+else-leap w ↦ c.common_length-days.ensures.0 ∙ days_common_year _ _ (sym w.leap.ensures ∙ w.if-leap.false)
      | else-month-eq2-via-else-month-eq2 w ↦ c.common_length-days.ensures.0 ∙ days_other_month _ _ w.if-month-eq2.false
    ]
