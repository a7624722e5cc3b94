-- `reduce_sales`: the lists are those of the book. Assumes nothing.
use Rattle.base.specs.Basics.{◌≡◌, refl}
use Rattle.book_format.specs.Book.{count_of_trades, count_of_users}
use Rattle.call_reduction.proofs.Cuts.{all_listed}
use Rattle.call_reduction.proofs.reduce_sales.Goals as goal
use Rattle.call_reduction.proofs.reduce_sales.Goals.{After-trade_count-m, After-user_count-n}

-- the counts of the book
users-are : (c : goal.After-user_count-n) → c.user_count-n.result ≡ count_of_users c.args.book.now
users-are c = c.user_count-n.ensures

trades-are : (c : goal.After-trade_count-m) → c.trade_count-m.result ≡ count_of_trades c.args.book.now
trades-are c = c.trade_count-m.ensures

pub fill_lists-requires : goal.fill_lists-requires
fill_lists-requires c = record {
  borne_in = (c.requires.user_of.1, users-are (goal.at.fill_lists-requires c).After-user_count-n, trades-are (goal.at.fill_lists-requires c).After-trade_count-m);
  starts_len = (refl, record { origins_room = refl; standing_room = refl; areas_room = refl; buyers_room = refl });
}

pub reduce_listed-requires : goal.reduce_listed-requires
reduce_listed-requires c = record { user_of = c.requires.user_of.0; listed = all_listed c.fill_lists.ensures.sales_of c.fill_lists.ensures.standing_of c.fill_lists.ensures.sales_room; t = c.requires.t }
