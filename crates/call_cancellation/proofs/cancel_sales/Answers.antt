-- `cancel_sales`: the counts are those of the book. Assumes nothing.
use Rattle.base.specs.Basics.{◌≡◌, refl}
use Rattle.book_format.specs.Book.{count_of_trades, count_of_users}
use Rattle.call_cancellation.proofs.cancel_sales.Goals as goal
use Rattle.call_cancellation.proofs.cancel_sales.Goals.{After-trade_count-m, After-user_count-n}

-- the counts of the book
users-are : (c : goal.After-user_count-n) → c.user_count-n.result ≡ count_of_users c.args.book.now
users-are c = c.user_count-n.ensures

trades-are : (c : goal.After-trade_count-m) → c.trade_count-m.result ≡ count_of_trades c.args.book.now
trades-are c = c.trade_count-m.ensures

pub trades_offset-at-requires : goal.trades_offset-at-requires
trades_offset-at-requires c = (c.requires.selling.borne.accepted.held.form, users-are (goal.at.trades_offset-at-requires c).After-user_count-n)

pub cancel_among-requires : goal.cancel_among-requires
cancel_among-requires c = record { selling = (rw (c.trades_offset-at.ensures, trades-are (goal.at.cancel_among-requires c).After-trade_count-m) c.requires.selling, refl); in_range = c.requires.in_range; tries_nonzero = c.requires.tries_nonzero }
