-- `trade_offset`: the trades stand one after the other, to the end of the book. Assumes nothing.
use Rattle.base.specs.Basics.{◌+◌, ◌*◌, ◌≤◌, ◌<◌, arith, length}
use Rattle.call_told.proofs.trade_offset.Goals as goal
use Rattle.call_told.proofs.trade_offset.Goals.{After-trades_offset}

lies : (c : goal.After-trades_offset) → (c.trades_offset.result + 20 * c.args.place + 20 ≤ length c.args.book.now) × (c.args.place < 256)
lies c = (omega (arith, c.requires.1, c.requires.0.whole, c.trades_offset.ensures), omega (arith, c.requires.1, c.requires.0.trades))

pub returns : goal.returns
returns c = (omega (arith, c.trades_offset.ensures), (lies c).0)

pub user_count-n-requires : goal.user_count-n-requires
user_count-n-requires c = omega (arith, c.requires.0.head)

pub trades_offset-requires : goal.trades_offset-requires
trades_offset-requires c = (c.requires.0, c.user_count-n.ensures)

pub overflow_mul-result : goal.overflow_mul-result
overflow_mul-result c = omega (arith, lies c)

pub overflow_add-result : goal.overflow_add-result
overflow_add-result c = omega (arith, lies c, c.well_formed)
