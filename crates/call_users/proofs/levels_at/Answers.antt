-- `levels_at`: a clearing house has no level; a shipper has both, and its state. Assumes nothing.
use Rattle.base.specs.Basics.{◌≡◌, sym, ◌∙◌, List, ℕ, get_or}
use Rattle.book_format.specs.Book.{book_of, users_of}
use Rattle.call_level.specs.Times.{level_of_user}
use Rattle.risk_members.proofs.Members.{read_id, read_role}
use Rattle.rules.specs.Book.{User, nobody}
use Rattle.units.specs.Limits.{as_limits}
use Rattle.call_answers.specs.Levels.{as_row}
use Rattle.call_users.proofs.User.{row_of_house, row_of_shipper, user_in}
use Rattle.call_users.proofs.levels_at.Goals as goal
use Rattle.call_users.proofs.levels_at.Goals.{After-user_at-user, Start}

abbrev bytes : goal.Start → List ℕ
bytes s = s.args.book.now

abbrev user : goal.Start → User
user s = get_or (users_of (bytes s)) s.args.place nobody

own : (c : goal.After-user_at-user) → c.user_at-user.result.id ≡ (user (goal.at.After-user_at-user c).Start).party.id
own c = read_id c.user_at-user.result (user (goal.at.After-user_at-user c).Start) c.user_at-user.ensures

role : (c : goal.After-user_at-user) → c.user_at-user.result.role ≡ (user (goal.at.After-user_at-user c).Start).party.role
role c = read_role c.user_at-user.result (user (goal.at.After-user_at-user c).Start) c.user_at-user.ensures

pub user_at-user-requires : goal.user_at-user-requires
user_at-user-requires c = user_in c.requires.opened_sums.0.figures c.requires.opened_sums.1

pub returns-then-user-ne0 : goal.returns-then-user-ne0
unfolding as_row
returns-then-user-ne0 c = row_of_house (as_limits c.args.limits) (book_of (bytes (goal.at.returns-then-user-ne0 c).Start)) (user (goal.at.returns-then-user-ne0 c).Start)
    (own (goal.at.returns-then-user-ne0 c).After-user_at-user) (λ h. c.if-user-ne0.true (role (goal.at.returns-then-user-ne0 c).After-user_at-user ∙ h))

pub holdings_of-holdings-requires : goal.holdings_of-holdings-requires
holdings_of-holdings-requires c = (c.requires.opened_sums.0.figures.accepted, c.requires.opened_sums.0.sums_are, c.requires.opened_sums.1, c.user_at-user.ensures)

pub level_of-morning-requires : goal.level_of-morning-requires
level_of-morning-requires c = record { opened_figures = (c.requires.opened_sums.0.figures, c.requires.opened_sums.1); user_value = (c.user_at-user.ensures, c.holdings_of-holdings.ensures) }

pub level_of-afternoon-requires : goal.level_of-afternoon-requires
level_of-afternoon-requires c = record { opened_figures = (c.requires.opened_sums.0.figures, c.requires.opened_sums.1); user_value = (c.user_at-user.ensures, c.holdings_of-holdings.ensures) }

pub state_at-state-requires : goal.state_at-state-requires
unfolding level_of_user
state_at-state-requires c = record { opened_figures = (c.requires.opened_sums.0.figures, c.requires.opened_sums.1); user_value = (c.user_at-user.ensures, c.holdings_of-holdings.ensures); level_value = (c.level_of-afternoon.ensures, c.requires.below_notified_value) }

pub returns : goal.returns
unfolding as_row level_of_user
returns c = row_of_shipper (as_limits c.args.limits) (book_of (bytes (goal.at.returns c).Start)) (user (goal.at.returns c).Start) (own (goal.at.returns c).After-user_at-user)
    (sym (role (goal.at.returns c).After-user_at-user) ∙ c.if-user-ne0.false) c.state_at-state.ensures c.level_of-morning.ensures c.level_of-afternoon.ensures
