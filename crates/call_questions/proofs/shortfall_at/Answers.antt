-- `shortfall_at`: the state of the user says which question refuses, and its level what is owed where none does. Assumes nothing.
use Rattle.base.specs.Basics.{◌≡◌, refl, sym, ap, ◌∙◌, arith, get_or}
use Rattle.refusals.proofs.Numbers.{handed_on, refused-nonzero}
use Rattle.refusals.specs.Refusal.{number_in}
use Rattle.book_format.specs.Book.{book_of, count_of_trades, count_of_users, users_of}
use Rattle.book_format.specs.Places.{UserIn}
use Rattle.units.specs.Limits.{as_limits}
use Rattle.risk_user.specs.UserAt.{DayOf}
use Rattle.rules.specs.Book.{nobody}
use Rattle.rules.specs.Levels.{afternoon_level, called_in}
use Rattle.run_reduction.proofs.Steps.{accepted_day}
use Rattle.units.specs.Prices.{as_prices}
use Rattle.call_questions.proofs.Asked.{asked_called, asked_level, owed_shortfall, refused_shortfall}
use Rattle.call_questions.proofs.shortfall_at.Goals as goal
use Rattle.call_questions.proofs.shortfall_at.Goals.{After-level_at-level, After-trade_count-m, After-user_count-n, Start}

-- the counts of the book
users-are : (c : goal.After-user_count-n) → c.user_count-n.result ≡ count_of_users c.args.book.now
users-are c = c.user_count-n.ensures

trades-are : (c : goal.After-trade_count-m) → c.trade_count-m.result ≡ count_of_trades c.args.book.now
trades-are c = c.trade_count-m.ensures

-- what can be asked of the user
day-is : (s : goal.Start) → let a = s.args in DayOf (as_limits a.day.limits) (as_prices a.day.prices) a.book.now
day-is s = let r = s.requires.0.risk in accepted_day r.opened r.prices_are

user-in : (s : goal.Start) → UserIn s.args.book.now s.args.place
user-in s = record { form = s.requires.0.book.accepted.held.form; inside = s.requires.1 }

-- the level is the user's, and whether it is called in
level-is : (c : goal.After-level_at-level) → let a = c.args in c.level_at-level.result.0 ≡ afternoon_level (as_limits a.day.limits) (book_of a.book.now) (get_or (users_of a.book.now) a.place nobody)
level-is c = asked_level c.requires.0.risk c.requires.1 c.fill_positions.ensures.0 c.level_at-level.ensures

called_is : (c : goal.After-level_at-level) → let a = c.args in c.called_at-called.result ≡ called_in (as_limits a.day.limits) (book_of a.book.now) (get_or (users_of a.book.now) a.place nobody)
called_is c = asked_called c.requires.0.risk c.requires.1 c.fill_positions.ensures.0 c.called_at-called.ensures c.below_notified_at-below_notified.ensures

pub fill_positions-requires : goal.fill_positions-requires
fill_positions-requires c = (c.requires.0.book.accepted, users-are (goal.at.fill_positions-requires c).After-user_count-n, c.requires.2)

pub below_notified_at-below_notified-requires : goal.below_notified_at-below_notified-requires
below_notified_at-below_notified-requires c = (
  c.requires.0.book,
  users-are (goal.at.below_notified_at-below_notified-requires c).After-user_count-n,
  trades-are
      (goal.at.below_notified_at-below_notified-requires c).After-trade_count-m,
  omega (arith, c.requires.1, users-are (goal.at.below_notified_at-below_notified-requires c).After-user_count-n),
)

pub called_at-called-requires : goal.called_at-called-requires
called_at-called-requires c = (day-is (goal.at.called_at-called-requires c).Start, user-in (goal.at.called_at-called-requires c).Start)

pub level_at-level-requires : goal.level_at-level-requires
level_at-level-requires c = (day-is (goal.at.level_at-level-requires c).Start, user-in (goal.at.level_at-level-requires c).Start, c.requires.0.risk.sums_are.low)

pub state_of-requires : goal.state_of-requires
state_of-requires c = (day-is (goal.at.state_of-requires c).Start, user-in (goal.at.state_of-requires c).Start)

pub returns-in_err-refused_by : goal.returns-in_err-refused_by
returns-in_err-refused_by c = let e = c.in_err-refused_by.field-0.0 in
    rw (handed_on c.from_residual.ensures.1)
    (record {
      shortfall_of = refused_shortfall c.requires.0.risk c.requires.1 c.fill_positions.ensures.0 (level-is (goal.at.returns-in_err-refused_by c).After-level_at-level)
          (called_is (goal.at.returns-in_err-refused_by c).After-level_at-level) (ap number_in (sym c.in_err-refused_by.was) ∙ c.refused_by.ensures) c.state_of.ensures (refused-nonzero e);
      positions_of = c.fill_positions.ensures;
    })

pub target_of-requires : goal.target_of-requires
target_of-requires c = (day-is (goal.at.target_of-requires c).Start, user-in (goal.at.target_of-requires c).Start)

pub returns : goal.returns
returns c = record {
  shortfall_of = owed_shortfall c.requires.0.risk c.requires.1 c.fill_positions.ensures.0 (level-is (goal.at.returns c).After-level_at-level)
      (called_is (goal.at.returns c).After-level_at-level) (ap number_in (sym c.in_ok-refused_by.was) ∙ c.refused_by.ensures) c.state_of.ensures refl c.target_of.ensures;
  positions_of = c.fill_positions.ensures;
}
