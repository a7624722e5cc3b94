-- `run_book`: the lists are those of the opening book. Assumes nothing.
use Rattle.base.specs.Basics.{◌≡◌, refl}
use Rattle.book_format.specs.Book.{count_of_trades, count_of_users}
use Rattle.run_book.proofs.run_book.Goals as goal
use Rattle.run_book.proofs.run_book.Goals.{After-trade_count-m, After-user_count-n}

-- the counts of the book
users-are : (c : goal.After-user_count-n) → c.user_count-n.result ≡ count_of_users c.args.book.now
users-are c = c.user_count-n.ensures

trades-are : (c : goal.After-trade_count-m) → c.trade_count-m.result ≡ count_of_trades c.args.book.now
trades-are c = c.trade_count-m.ensures

pub fill_lists-count-requires : goal.fill_lists-count-requires
fill_lists-count-requires c = record {
  borne_in = (
    c.requires.runnable.book,
    users-are
        (goal.at.fill_lists-count-requires c).After-user_count-n,
    trades-are (goal.at.fill_lists-count-requires c).After-trade_count-m,
  );
  starts_len = (refl, record { origins_room = refl; standing_room = refl; areas_room = refl; buyers_room = refl });
}

pub run_listed-requires : goal.run_listed-requires
run_listed-requires c = record { book_in = c.requires.book_in; runnable = c.requires.runnable; listed = record { sales = c.fill_lists-count.ensures.sales_of; standing = c.fill_lists-count.ensures.standing_of; room = c.fill_lists-count.ensures.sales_room } }

pub returns : goal.returns
returns c = c.run_listed.ensures
