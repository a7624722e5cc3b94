-- `level_at`: asked of the charges and the holdings that are read. Assumes nothing.
use Rattle.base.specs.Basics.{ap, ◌∙◌, ℤ, get_or}
use Rattle.book_format.specs.Book.{users_of}
use Rattle.rules.specs.Book.{nobody}
use Rattle.rules.specs.Levels.{afternoon_sum, floored}
use Rattle.units.specs.Prices.{as_prices}
use Rattle.units.specs.Limits.{as_limits}
use Rattle.risk_holdings.specs.Holdings.{held_in}
use Rattle.risk_user.specs.UserAt.{level_of_place}
use Rattle.risk_user.proofs.Held.{level_positions}
use Rattle.risk_user.proofs.level_at.Goals as goal

pub returns : goal.returns
unfolding level_of_place
returns c = let a = c.args in
    let l = as_limits a.day.limits in
    let f = as_prices a.day.prices in
    c.afternoon_level.ensures
    ∙ ap (λ (z : ℤ). floored l (afternoon_sum f (held_in c.holdings_at-holdings.result) z)) c.charges_at-charges.ensures
    ∙ level_positions a.positions.now a.place c.positions_at-position.result c.positions_at-position.ensures c.holdings_at-holdings.ensures l f (get_or (users_of a.book.now) a.place nobody)
