-- `state_of`: each way out is a case of the definition. Assumes nothing.
use Rattle.base.specs.Basics.{get_or}
use Rattle.book_format.specs.Book.{users_of}
use Rattle.rules.specs.Book.{User, nobody}
use Rattle.rules.specs.Levels.{Limits}
use Rattle.units.specs.Limits.{as_limits}
use Rattle.risk_user.proofs.States.{state_call, state_clear, state_short, state_uncalled, state_within}
use Rattle.risk_user.proofs.state_of.Goals as goal
use Rattle.risk_user.proofs.state_of.Goals.{Start}

-- the limits and the user of the rules
abbrev l : goal.Start → Limits
l s = as_limits s.args.day.limits

abbrev u : goal.Start → User
u s = get_or (users_of s.args.book.now) s.args.place nobody

pub returns-then-role_at-ne0 : goal.returns-then-role_at-ne0
returns-then-role_at-ne0 c = state_clear (l (goal.at.returns-then-role_at-ne0 c).Start) (u (goal.at.returns-then-role_at-ne0 c).Start) c.args.level.0 c.args.called c.role_at.ensures c.if-role_at-ne0.true

pub returns-then-not-called : goal.returns-then-not-called
returns-then-not-called c = state_uncalled (l (goal.at.returns-then-not-called c).Start) (u (goal.at.returns-then-not-called c).Start) c.args.level.0 c.role_at.ensures c.if-role_at-ne0.false c.if-not-called.true

pub returns-then-target-gt0 : goal.returns-then-target-gt0
returns-then-target-gt0 c = state_short (l (goal.at.returns-then-target-gt0 c).Start) (u (goal.at.returns-then-target-gt0 c).Start) c.args.level.0 c.role_at.ensures c.if-role_at-ne0.false c.if-not-called.false c.target_of-target.ensures c.if-target-gt0.true

pub returns-then-exceeds_margin : goal.returns-then-exceeds_margin
returns-then-exceeds_margin c = state_call (l (goal.at.returns-then-exceeds_margin c).Start) (u (goal.at.returns-then-exceeds_margin c).Start) c.args.level.0 c.role_at.ensures c.if-role_at-ne0.false c.if-not-called.false c.target_of-target.ensures c.if-target-gt0.false
    c.exceeds_margin.ensures c.if-exceeds_margin.true

pub returns : goal.returns
returns c = state_within (l (goal.at.returns c).Start) (u (goal.at.returns c).Start) c.args.level.0 c.role_at.ensures c.if-role_at-ne0.false c.if-not-called.false c.target_of-target.ensures c.if-target-gt0.false
    c.exceeds_margin.ensures c.if-exceeds_margin.false
