-- `owed_at`: each way out is a case of the definition. Assumes nothing.
use Rattle.base.specs.Basics.{◌∙◌, Bool, ℕ}
use Rattle.book_format.specs.Book.{users_of}
use Rattle.risk_user.specs.UserAt.{flagged_at, target_of_place}
use Rattle.units.specs.Prices.{as_prices}
use Rattle.units.specs.Limits.{as_limits}
use Rattle.run_targets.proofs.First.{first_called, first_none, first_uncalled}
use Rattle.run_targets.proofs.owed_at.Goals as goal
use Rattle.run_targets.proofs.owed_at.Goals.{Start, else-left-via-then-left+else-called_at, else-left-via-else-left}

-- whether the user is flagged, and its target
abbrev flagged : goal.Start → Bool
flagged s = let a = s.args in flagged_at (as_limits a.day.limits) (as_prices a.day.prices) (users_of a.book.now) a.positions.now a.place

abbrev target : goal.Start → ℕ
target s = let a = s.args in target_of_place (as_limits a.day.limits) (as_prices a.day.prices) (users_of a.book.now) a.sums.now a.positions.now a.place

pub returns-then-called_at : goal.returns-then-called_at
returns-then-called_at c = let s = (goal.at.returns-then-called_at c).Start in
    c.target_at.ensures ∙ first_called (target s) c.if-left.true (flagged s) c.args.below_notified c.called_at.ensures c.if-called_at.true

pub returns-else-left : goal.returns-else-left
returns-else-left c = let s = (goal.at.returns-else-left c).Start in
    elim c.else-left.branch [
      | else-left-via-then-left+else-called_at w ↦ first_uncalled (target s) w.if-left.true (flagged s) c.args.below_notified w.called_at.ensures w.if-called_at.false
      | else-left-via-else-left w ↦ first_none (flagged s) c.args.below_notified (target s) w.if-left.false
    ]
