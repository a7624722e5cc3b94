-- `fill_targets`: the users passed have their targets. Assumes nothing.
use Rattle.base.specs.Basics.{◌∙◌, arith}
use Rattle.book_format.specs.Book.{book_of}
use Rattle.units.specs.Limits.{as_limits}
use Rattle.run_targets.proofs.First.{end_few, filled_end, filled_more, filled_start, first_is, left_is, member_few, member_in, members_end}
use Rattle.run_targets.proofs.fill_targets.Goals as goal

pub loop-i-init : goal.loop-i-init
loop-i-init c = let a = c.args in
    filled_start (as_limits a.day.limits) (book_of a.book.now) c.requires.opening.1 c.requires.opening.2

pub any_left-left-requires : goal.any_left-left-requires
any_left-left-requires c = let a = c.args in
    let p = c.requires.opening.0 in
    let i = c.loop-i.i in
    let k = member_in p c.loop-i-test.true in
    (end_few p i k, p.standing_room)

pub owed_at-requires : goal.owed_at-requires
owed_at-requires c = let p = c.requires.opening.0 in
    (c.requires.day_of, record { form = p.risk.opened.accepted.held.form; inside = omega (arith, p.users_are, c.loop-i-test.true) }, p.risk.sums_are.low)

pub loop-i-preserved : goal.loop-i-preserved
loop-i-preserved c = let a = c.args in
    let p = c.requires.opening.0 in
    let i = c.loop-i.i in
    let k = member_in p c.loop-i-test.true in
    let e = left_is p i k c.any_left-left.ensures in
    filled_more (as_limits a.day.limits) (book_of a.book.now) c.owed_at.result.0 c.any_left-left.result (omega (arith, k, member_few p k)) (c.owed_at.ensures ∙ first_is p i k e) e c.loop-i.invariant

pub returns : goal.returns
returns c = let a = c.args in
    filled_end (as_limits a.day.limits) (book_of a.book.now) (members_end c.requires.opening.0 c.loop-i-test.false) c.loop-i.invariant
