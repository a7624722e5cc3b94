-- Where the answer is no, one of the rule's tests of year and month fails; else those of the day answer.
use borrow.Author.Tests.{le-leb, lt-leb}
use Rattle.rules.specs.Calendar.{year_of, month_of, day_of, real_day}
use Rattle.calendar.proofs.is_real_day.Goals as goal
use Rattle.calendar.proofs.is_real_day.Goals.{then-year-lt2020-via-then-year-lt2020, then-year-lt2020-via-else-year-lt2020+then-year-gt2099}
use Rattle.calendar.proofs.is_real_day.Goals.{then-year-lt2020-via-else-year-lt2020+else-year-gt2099+then-month-lt1}
use Rattle.calendar.proofs.is_real_day.Goals.{then-year-lt2020-via-else-year-lt2020+else-year-gt2099+else-month-lt1+then-month-gt12}

pub returns-then-year-lt2020 : goal.returns-then-year-lt2020
unfolding real_day year_of month_of day_of
returns-then-year-lt2020 c =
    elim c.then-year-lt2020.branch [
      | then-year-lt2020-via-then-year-lt2020 w ↦ rw (lt-leb _ _ w.if-year-lt2020.true)
      | then-year-lt2020-via-else-year-lt2020+then-year-gt2099 w ↦ rw (le-leb _ _ w.if-year-lt2020.false, lt-leb _ _ w.if-year-gt2099.true)
      | then-year-lt2020-via-else-year-lt2020+else-year-gt2099+then-month-lt1 w ↦
          rw (le-leb _ _ w.if-year-lt2020.false, le-leb _ _ w.if-year-gt2099.false, lt-leb _ _ w.if-month-lt1.true)
      | then-year-lt2020-via-else-year-lt2020+else-year-gt2099+else-month-lt1+then-month-gt12 w ↦
          rw (
            le-leb _ _ w.if-year-lt2020.false,
            le-leb _ _ w.if-year-gt2099.false,
            le-leb _ _ w.if-month-lt1.false,
            lt-leb _ _ w.if-month-gt12.true,
          )
    ]

pub returns : goal.returns
unfolding real_day year_of month_of day_of
returns c =
    rw (
      le-leb _ _ c.if-year-lt2020.false,
      le-leb _ _ c.if-year-gt2099.false,
      le-leb _ _ c.if-month-lt1.false,
      le-leb _ _ c.if-month-gt12.false,
      c.month_length.ensures,
    )
