-- `fill_own`: the users passed have their positions. Assumes nothing.
use Rattle.base.specs.Basics.{arith}
use Rattle.book_format.specs.Book.{users_of}
use Rattle.run_positions.proofs.Filling.{placed_end, placed_more, placed_start}
use Rattle.run_positions.proofs.fill_own.Goals as goal

pub loop-i-init : goal.loop-i-init
loop-i-init c = let a = c.args in
    placed_start (users_of a.book.now) c.requires.2

pub loop-i-preserved : goal.loop-i-preserved
loop-i-preserved c = let a = c.args in
    placed_more (users_of a.book.now) c.position_in.result c.position_in-in-loop-i.result c.position_in-in-loop-i-2.result
    (omega (arith, c.loop-i-test.true, c.requires.1, c.requires.0.users)) c.loop-i.invariant
    c.position_in.ensures c.position_in-in-loop-i.ensures c.position_in-in-loop-i-2.ensures

pub returns : goal.returns
returns c = let a = c.args in
    placed_end a.book.now (omega (arith, c.loop-i-test.false, c.requires.1)) c.loop-i.invariant
