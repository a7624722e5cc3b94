-- `state_at`: the user is called in by its positions as its risk is borne, and its state follows from its level. Assumes nothing.
use Rattle.base.specs.Basics.{◌≡◌, sym, ap, subst, ◌∙◌, List, ℕ, arith, get_or}
use Rattle.book_format.proofs.Passed.{length-users_of}
use Rattle.book_format.proofs.Places.{header_lies}
use Rattle.book_format.specs.Book.{book_of, users_of}
use Rattle.book_records.specs.User.{as_amounts}
use Rattle.risk_members.proofs.Holdings.{positions_held}
use Rattle.risk_members.proofs.Members.{read_blocked}
use Rattle.risk_user.proofs.Accepted.{blocked_within, prices_within}
use Rattle.risk_user.proofs.Held.{called_row}
use Rattle.risk_user.proofs.Rules.{state_own}
use Rattle.rules.specs.Book.{User, nobody}
use Rattle.rules.specs.Levels.{called_in}
use Rattle.run_reduction.proofs.Steps.{accepted_day}
use Rattle.units.specs.Limits.{as_limits}
use Rattle.units.specs.Prices.{InRange, as_prices}
use Rattle.call_users.proofs.User.{user_in}
use Rattle.call_users.proofs.state_at.Goals as goal
use Rattle.call_users.proofs.state_at.Goals.{After-called_in-called, After-read_prices-prices, Start}

abbrev bytes : goal.Start → List ℕ
bytes s = s.args.book.now

abbrev user : goal.Start → User
user s = get_or (users_of (bytes s)) s.args.place nobody

blocked-is : (s : goal.Start) → s.args.user.blocked.0 ≡ (user s).blocked
blocked-is s = read_blocked s.args.user (user s) s.requires.user_value.0

pub read_prices-prices-requires : goal.read_prices-prices-requires
read_prices-prices-requires c = header_lies c.requires.opened_figures.0.accepted.held.form

-- the prices are the book's
priced : (c : goal.After-read_prices-prices) → as_prices c.read_prices-prices.result ≡ (book_of (bytes (goal.at.After-read_prices-prices c).Start)).header.prices
unfolding book_of
priced c = c.read_prices-prices.ensures

pub called_in-called-requires : goal.called_in-called-requires
called_in-called-requires c = let u = c.requires.opened_figures.0 in (
  u.limits_in,
  subst InRange (sym (priced (goal.at.called_in-called-requires c).After-read_prices-prices)) (prices_within (bytes (goal.at.called_in-called-requires c).Start) u.passes),
  omega (arith, blocked-is (goal.at.called_in-called-requires c).Start, blocked_within (bytes (goal.at.called_in-called-requires c).Start) u.passes c.requires.opened_figures.1),
)

pub state_of-requires : goal.state_of-requires
state_of-requires c = let u = c.requires.opened_figures.0 in
    (accepted_day u (priced (goal.at.state_of-requires c).After-read_prices-prices), user_in u c.requires.opened_figures.1)

-- the user is called in
called : (c : goal.After-called_in-called) → c.called_in-called.result ≡ called_in (as_limits c.args.limits) (book_of (bytes (goal.at.After-called_in-called c).Start)) (user (goal.at.After-called_in-called c).Start)
unfolding book_of
called c = let a = c.args in
    called_row (book_of (bytes (goal.at.After-called_in-called c).Start)) a.place (omega (arith, c.requires.opened_figures.1, length-users_of (bytes (goal.at.After-called_in-called c).Start)))
    (as_limits a.limits) (priced (goal.at.After-called_in-called c).After-read_prices-prices) c.positions-position.result
    (ap as_amounts c.positions-position.ensures ∙ positions_held (bytes (goal.at.After-called_in-called c).Start) c.requires.opened_figures.0.accepted c.requires.opened_figures.1 a.holdings
    c.requires.user_value.1) (c.called_in-called.ensures (user (goal.at.After-called_in-called c).Start) (blocked-is (goal.at.After-called_in-called c).Start)) c.requires.level_value.1

pub returns : goal.returns
returns c = c.state_of.ensures ∙ state_own (as_limits c.args.limits) (book_of (bytes (goal.at.returns c).Start)) (user (goal.at.returns c).Start) c.requires.level_value.0 (called (goal.at.returns c).After-called_in-called)
