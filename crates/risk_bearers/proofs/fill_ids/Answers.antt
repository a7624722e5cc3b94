-- `fill_ids`: the ids of the users passed are listed. Assumes nothing.
use Rattle.base.specs.Basics.{arith}
use Rattle.book_format.proofs.Places.{user_lies}
use Rattle.book_format.specs.Book.{users_of}
use Rattle.book_format.specs.Places.{UserIn}
use Rattle.risk_bearers.proofs.Table.{ids_end, ids_more, ids_start}
use Rattle.risk_bearers.proofs.fill_ids.Goals as goal
use Rattle.risk_bearers.proofs.fill_ids.Goals.{In-loop-i}

-- the user is one of the book
there : (c : goal.In-loop-i) → UserIn c.args.book.now c.loop-i.i
there c = record { form = c.requires.0.held.form; inside = omega (arith, c.loop-i-test.true, c.requires.1) }

pub bounds-ids-i : goal.bounds-ids-i
bounds-ids-i c = omega (arith, c.loop-i-test.true, c.requires.1, c.requires.0.held.form.users)

pub loop-i-preserved : goal.loop-i-preserved
loop-i-preserved c = ids_more c.args.book.now (there (goal.at.loop-i-preserved c).In-loop-i) c.requires.0.held.form.users c.user_offset.ensures.0 c.get_u32.ensures c.loop-i.invariant

pub returns : goal.returns
returns c = ids_end c.args.book.now c.requires.0 c.requires.1 (omega (arith, c.loop-i-test.false)) c.loop-i.invariant

pub loop-i-init : goal.loop-i-init
loop-i-init c = ids_start (users_of c.args.book.now) c.requires.2

pub user_offset-requires : goal.user_offset-requires
user_offset-requires c = there c

pub get_u32-requires : goal.get_u32-requires
get_u32-requires c = omega (arith, c.user_offset.ensures.0, user_lies (there (goal.at.get_u32-requires c).In-loop-i))
