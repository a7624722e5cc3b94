-- `is_due`: below the margin the answer is no; above it, it is yes in the morning, and in the afternoon that of called in. Assumes nothing.
use Rattle.base.specs.Basics.{◌≡◌, sym, ap, subst, ◌∙◌, ℕ, ◌≤◌, arith, get_or, not-true, not-false}
use Rattle.rules.specs.Book.{User, nobody}
use Rattle.rules.specs.Levels.{exceeds_its_margin}
use Rattle.units.specs.Limits.{as_limits}
use Rattle.units.specs.Prices.{InRange, as_prices}
use Rattle.book_format.proofs.Passed.{length-users_of}
use Rattle.book_format.specs.Book.{book_of, users_of}
use Rattle.book_format.specs.Questions.{Formed, book_number}
use Rattle.book_format.proofs.Places.{header_lies}
use Rattle.laws_sales.specs.Parties.{cut_before}
use Rattle.risk_bearers.proofs.Borne.{id_in_lem}
use Rattle.risk_bearers.specs.Bearers.{trades_in}
use Rattle.risk_members.proofs.Members.{read_blocked}
use Rattle.risk_user.proofs.Accepted.{blocked_within, prices_within}
use Rattle.risk_user.proofs.Held.{called_row}
use Rattle.call_guarantee.specs.Times.{due_of}
use Rattle.call_guarantee.proofs.Ways.{due_within}
use Rattle.call_guarantee.proofs.is_due.Goals as goal
use Rattle.call_guarantee.proofs.is_due.Goals.{After-exceeds_margin, After-read_prices-prices, Start}

-- the book and the user that it is asked of
passes : (c : goal.Start) → book_number c.args.book.now ≡ 0
passes c = c.requires.opened_figures.0.passes

form : (c : goal.Start) → Formed c.args.book.now
form c = c.requires.opened_figures.0.accepted.held.form

-- the user of the book, and its blocked guarantee
abbrev user : goal.Start → User
user c = get_or (users_of c.args.book.now) c.args.place nobody

blocked-is : (c : goal.Start) → c.args.user.blocked.0 ≡ (user c).blocked
blocked-is c = read_blocked c.args.user (user c) c.requires.user_value.0

blocked-most : (c : goal.Start) → c.args.user.blocked.0 ≤ 1000000000000
blocked-most c = omega (arith, blocked-is c, blocked_within c.args.book.now (passes c) c.requires.opened_figures.2)

pub exceeds_margin-requires : goal.exceeds_margin-requires
exceeds_margin-requires c = (c.requires.opened_figures.0.limits_in, blocked-most (goal.at.exceeds_margin-requires c).Start)

-- whether the level exceeds the margin, of the user of the rules
margin : (c : goal.After-exceeds_margin) → let a = c.args in c.exceeds_margin.result ≡ exceeds_its_margin (as_limits a.limits) a.level.0 (user (goal.at.After-exceeds_margin c).Start)
margin c = c.exceeds_margin.ensures (user (goal.at.After-exceeds_margin c).Start) (blocked-is (goal.at.After-exceeds_margin c).Start)

pub returns-then-not-exceeds_margin : goal.returns-then-not-exceeds_margin
returns-then-not-exceeds_margin c = let a = c.args in
    due_within (as_limits a.limits) (book_of a.book.now) a.level.0 (user (goal.at.returns-then-not-exceeds_margin c).Start) a.afternoon
    (sym (margin (goal.at.returns-then-not-exceeds_margin c).After-exceeds_margin) ∙ not-true c.exceeds_margin.result c.if-not-exceeds_margin.true-raw)

pub read_prices-prices-requires : goal.read_prices-prices-requires
read_prices-prices-requires c = header_lies (form (goal.at.read_prices-prices-requires c).Start)

-- the prices are the book's
priced : (c : goal.After-read_prices-prices) → as_prices c.read_prices-prices.result ≡ (book_of c.args.book.now).header.prices
unfolding book_of
priced c = c.read_prices-prices.ensures

pub user_count-n-requires : goal.user_count-n-requires
user_count-n-requires c = omega (arith, (form (goal.at.user_count-n-requires c).Start).head)

pub trade_count-m-requires : goal.trade_count-m-requires
trade_count-m-requires c = omega (arith, (form (goal.at.trade_count-m-requires c).Start).head)

pub below_notified_at-below_notified-requires : goal.below_notified_at-below_notified-requires
below_notified_at-below_notified-requires c = (c.requires.opened_figures.1 c.if-afternoon.true, c.user_count-n.ensures, c.trade_count-m.ensures, omega (arith, c.user_count-n.ensures, c.requires.opened_figures.2))

pub called_in-requires : goal.called_in-requires
called_in-requires c = (c.requires.opened_figures.0.limits_in, subst InRange (sym (priced (goal.at.called_in-requires c).After-read_prices-prices)) (prices_within c.args.book.now (passes (goal.at.called_in-requires c).Start)), blocked-most (goal.at.called_in-requires c).Start)

pub returns-then-afternoon : goal.returns-then-afternoon
unfolding due_of book_of
returns-then-afternoon c = let a = c.args in
    let bytes = a.book.now in
    rw (c.if-afternoon.true, sym (margin (goal.at.returns-then-afternoon c).After-exceeds_margin) ∙ not-false c.exceeds_margin.result c.if-not-exceeds_margin.false-raw)
    (called_row (book_of bytes) a.place (omega (arith, c.requires.opened_figures.2, length-users_of bytes)) (as_limits a.limits) (priced (goal.at.returns-then-afternoon c).After-read_prices-prices) a.position c.requires.user_value.1
    (c.called_in.ensures (user (goal.at.returns-then-afternoon c).Start) (blocked-is (goal.at.returns-then-afternoon c).Start)) (c.below_notified_at-below_notified.ensures ∙ ap (λ (id : ℕ). cut_before id (trades_in bytes)) (id_in_lem bytes a.place)))

pub returns-else-afternoon : goal.returns-else-afternoon
unfolding due_of
returns-else-afternoon c = rw c.if-afternoon.false (sym (sym (margin (goal.at.returns-else-afternoon c).After-exceeds_margin) ∙ not-false c.exceeds_margin.result c.if-not-exceeds_margin.false-raw))
