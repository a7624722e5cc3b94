-- `level_of` computes the level of the time, which is that of the rules by what the record tells of the user and by what it holds. Assumes nothing.
use mathlib.Core.Path.{◌≡◌, sym, ap, subst, ◌∙◌}
use Prim.Native.Nat.{◌<◌}
use lib.IntN.{ℤ}
use lib.ListN.{get_or, length}
use Rattle.rules.specs.Book.{nobody}
use Rattle.rules.specs.Levels.{afternoon_sum, floored, morning_sum}
use Rattle.risk_holdings.specs.Holdings.{held_in}
use Rattle.units.specs.Amounts.{balance}
use Rattle.units.specs.Limits.{as_limits}
use Rattle.units.specs.Prices.{InRange, as_prices}
use Rattle.book_format.specs.Book.{book_of, users_of}
use Rattle.book_format.proofs.Passed.{length-users_of}
use Rattle.book_format.proofs.Places.{header_lies}
use Rattle.risk_members.proofs.Members.{read_charges}
use Rattle.risk_user.proofs.Accepted.{prices_within}
use Rattle.risk_user.proofs.Held.{afternoon_row, morning_row}
use Rattle.call_level.specs.Times.{level_of_user}
use Rattle.call_level.proofs.level_of.Goals as goal
use Rattle.call_level.proofs.level_of.Goals.{After-read_prices-prices, Start}

pub read_prices-prices-requires : goal.read_prices-prices-requires
read_prices-prices-requires c = header_lies c.requires.opened_figures.0.accepted.held.form

-- the prices are the book's
priced : (c : goal.After-read_prices-prices) → as_prices c.read_prices-prices.result ≡ (book_of c.args.book.now).header.prices
unfolding book_of
priced c = c.read_prices-prices.ensures

ranged : (c : goal.After-read_prices-prices) → InRange (as_prices c.read_prices-prices.result)
ranged c = subst InRange (sym (priced c)) (prices_within c.args.book.now c.requires.opened_figures.0.passes)

-- the user is one of the book's
member : (c : goal.Start) → c.args.place < length (book_of c.args.book.now).users
unfolding book_of
member c = rw (length-users_of c.args.book.now) c.requires.opened_figures.1

pub afternoon_level-requires : goal.afternoon_level-requires
afternoon_level-requires c = (c.requires.opened_figures.0.limits_in, ranged (goal.at.afternoon_level-requires c).After-read_prices-prices, c.requires.user_value.1.low)

-- the charges are those of its record
charged : (c : goal.Start) → balance c.args.user.charges ≡ (get_or (book_of c.args.book.now).users c.args.place nobody).party.charges
unfolding book_of
charged c = read_charges c.args.user (get_or (users_of c.args.book.now) c.args.place nobody) c.requires.user_value.0

pub returns-then-afternoon : goal.returns-then-afternoon
unfolding level_of_user book_of
returns-then-afternoon c = let b = book_of c.args.book.now in
    let h = c.args.holdings in
    rw c.if-afternoon.true
    (c.afternoon_level.ensures
    ∙ ap (λ (z : ℤ). floored (as_limits c.args.limits) (afternoon_sum (as_prices c.read_prices-prices.result) (held_in h) z)) (charged (goal.at.returns-then-afternoon c).Start)
    ∙ afternoon_row b c.args.place (member (goal.at.returns-then-afternoon c).Start) (as_limits c.args.limits) (priced (goal.at.returns-then-afternoon c).After-read_prices-prices) h c.requires.user_value.1.each)

pub morning_level-requires : goal.morning_level-requires
morning_level-requires c = (c.requires.opened_figures.0.limits_in, ranged (goal.at.morning_level-requires c).After-read_prices-prices, c.requires.user_value.1.low)

pub returns-else-afternoon : goal.returns-else-afternoon
unfolding level_of_user book_of
returns-else-afternoon c = let b = book_of c.args.book.now in
    let h = c.args.holdings in
    rw c.if-afternoon.false
    (c.morning_level.ensures
    ∙ ap (λ (z : ℤ). floored (as_limits c.args.limits) (morning_sum (as_prices c.read_prices-prices.result) (held_in h) z)) (charged (goal.at.returns-else-afternoon c).Start)
    ∙ morning_row b c.args.place (member (goal.at.returns-else-afternoon c).Start) (as_limits c.args.limits) (priced (goal.at.returns-else-afternoon c).After-read_prices-prices) h c.requires.user_value.1.each)
