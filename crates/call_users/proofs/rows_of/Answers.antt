-- `rows_of` fills in the row of one user more at each turn. Assumes nothing.
use Rattle.base.specs.Basics.{◌<◌, arith}
use Rattle.book_format.specs.Book.{book_of, count_of_users}
use Rattle.units.specs.Limits.{as_limits}
use Rattle.call_users.proofs.Filled.{flag_at, filled_end, filled_more, filled_start, users_few, users_many}
use Rattle.call_users.proofs.rows_of.Goals as goal
use Rattle.call_users.proofs.rows_of.Goals.{In-loop-i}

pub loop-i-init : goal.loop-i-init
loop-i-init c = let b = c.args.book.now in
    filled_start (as_limits c.args.limits) (book_of b) (users_few b c.requires.0.figures.passes) c.no_users-rows.ensures

inside : (c : goal.In-loop-i) → c.loop-i.i < count_of_users c.args.book.now
inside c = omega (arith, c.loop-i-test.true, c.requires.1)

few : (c : goal.In-loop-i) → c.loop-i.i < 64
few c = let b = c.args.book.now in omega (arith, inside c, users_many b, users_few b c.requires.0.figures.passes)

pub bounds-below_notified-i : goal.bounds-below_notified-i
bounds-below_notified-i c = omega (arith, few (goal.at.bounds-below_notified-i c).In-loop-i)

pub levels_at-requires : goal.levels_at-requires
levels_at-requires c = record { opened_sums = (c.requires.0, inside (goal.at.levels_at-requires c).In-loop-i); below_notified_value = flag_at c.args.book.now c.requires.2 c.loop-i.i (inside (goal.at.levels_at-requires c).In-loop-i) }

pub offset_bounds-rows-i : goal.offset_bounds-rows-i
offset_bounds-rows-i c = omega (arith, few (goal.at.offset_bounds-rows-i c).In-loop-i)

pub bounds-rows-i : goal.bounds-rows-i
bounds-rows-i c = omega (arith, few (goal.at.bounds-rows-i c).In-loop-i)

pub loop-i-preserved : goal.loop-i-preserved
unfolding book_of
loop-i-preserved c = let b = c.args.book.now in
    filled_more (as_limits c.args.limits) (book_of b) c.loop-i.invariant (omega (arith, inside (goal.at.loop-i-preserved c).In-loop-i, users_many b)) c.levels_at.result c.levels_at.ensures

pub returns : goal.returns
returns c = let b = c.args.book.now in
    filled_end (as_limits c.args.limits) (book_of b) c.loop-i.invariant (omega (arith, c.loop-i-test.false, c.requires.1, users_many b))
