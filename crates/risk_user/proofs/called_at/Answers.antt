-- `called_at`: asked of the blocked guarantee and the positions that are read. Assumes nothing.
use Rattle.base.specs.Basics.{ap, ◌∙◌, Bool, ◌||◌, arith, get_or}
use Rattle.book_format.specs.Book.{users_of}
use Rattle.rules.specs.Book.{nobody}
use Rattle.units.specs.Prices.{as_prices}
use Rattle.units.specs.Limits.{as_limits}
use Rattle.risk_user.specs.UserAt.{flagged_at}
use Rattle.risk_user.proofs.Held.{flagged_positions}
use Rattle.risk_user.proofs.called_at.Goals as goal

pub called_in-requires : goal.called_in-requires
called_in-requires c = (c.requires.0.limits_in, c.requires.0.prices_in, omega (arith, c.blocked_at-blocked.ensures, c.requires.0.blocked_most c.args.place))

pub returns : goal.returns
unfolding flagged_at
returns c = let a = c.args in
    let u = get_or (users_of a.book.now) a.place nobody in
    c.called_in.ensures u c.blocked_at-blocked.ensures
    ∙ ap (λ (x : Bool). x || a.below_notified) (flagged_positions a.positions.now a.place c.positions_at-position.result c.positions_at-position.ensures (as_limits a.day.limits) (as_prices a.day.prices) u)
