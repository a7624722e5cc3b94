-- `target_of`: each way out is a case of the definition. Assumes nothing.
use Rattle.base.specs.Basics.{get_or}
use Rattle.book_format.specs.Book.{users_of}
use Rattle.rules.specs.Book.{nobody}
use Rattle.units.specs.Limits.{as_limits}
use Rattle.risk_user.proofs.Targets.{target_beyond, target_within}
use Rattle.risk_user.proofs.target_of.Goals as goal

pub returns-then-exceeds_margin : goal.returns-then-exceeds_margin
returns-then-exceeds_margin c = let a = c.args in
    target_beyond (as_limits a.day.limits) (get_or (users_of a.book.now) a.place nobody) a.level.0 c.exceeds_margin.ensures c.if-exceeds_margin.true
    c.assigned_at.ensures c.less.ensures

pub returns-else-exceeds_margin : goal.returns-else-exceeds_margin
returns-else-exceeds_margin c = let a = c.args in
    target_within (as_limits a.day.limits) (get_or (users_of a.book.now) a.place nobody) a.level.0 c.exceeds_margin.ensures c.if-exceeds_margin.false
