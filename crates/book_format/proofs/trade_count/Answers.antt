-- `trade_count`: its bytes of the header. Assumes nothing.
use Rattle.base.specs.Basics.{rules}
use Rattle.book_format.specs.Book.{count_of_trades}
use Rattle.book_format.proofs.trade_count.Goals as goal

pub returns : goal.returns
unfolding count_of_trades
returns c = search rules
