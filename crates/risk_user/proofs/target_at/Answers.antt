-- `target_at`: a clearing house has none, and a shipper that of its level. Assumes nothing.
use Rattle.book_format.specs.Book.{users_of}
use Rattle.risk_user.proofs.Targets.{target_house, target_shipper}
use Rattle.units.specs.Prices.{as_prices}
use Rattle.units.specs.Limits.{as_limits}
use Rattle.risk_user.proofs.target_at.Goals as goal

pub returns-then-role_at-ne0 : goal.returns-then-role_at-ne0
returns-then-role_at-ne0 c = let a = c.args in
    target_house (as_limits a.day.limits) (as_prices a.day.prices) (users_of a.book.now) a.sums.now a.positions.now a.place c.role_at.ensures c.if-role_at-ne0.true

pub returns : goal.returns
returns c = let a = c.args in
    target_shipper (as_limits a.day.limits) (as_prices a.day.prices) (users_of a.book.now) a.sums.now a.positions.now a.place
    c.role_at.ensures c.if-role_at-ne0.false c.level_at-level.ensures c.target_of.ensures
