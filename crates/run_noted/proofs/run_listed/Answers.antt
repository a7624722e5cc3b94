-- `run_listed`: the arrays are those of the opening book; what the run's sales have lost, taken off in the bytes, gives the rules' book. Assumes nothing.
use Rattle.base.specs.Basics.{◌≡◌, refl}
use Rattle.book_format.specs.Book.{count_of_trades, count_of_users}
use Rattle.run_book.proofs.Ending.{lost_cuttable, ran_in, ran_left}
use Rattle.run_book.proofs.Start.{run_going, run_opening}
use Rattle.run_reduction.proofs.Start.{run_stays}
use Rattle.run_reduction.proofs.Steps.{accepted_day}
use Rattle.run_noted.proofs.Books.{listed_origins, noted_in}
use Rattle.run_noted.proofs.run_listed.Goals as goal
use Rattle.run_noted.proofs.run_listed.Goals.{After-trade_count-m, After-user_count-n}

-- the counts of the book
users-are : (c : goal.After-user_count-n) → c.user_count-n.result ≡ count_of_users c.args.book.now
users-are c = c.user_count-n.ensures

trades-are : (c : goal.After-trade_count-m) → c.trade_count-m.result ≡ count_of_trades c.args.book.now
trades-are c = c.trade_count-m.ensures

pub fill_positions-requires : goal.fill_positions-requires
fill_positions-requires c = (c.requires.runnable.book.accepted, users-are (goal.at.fill_positions-requires c).After-user_count-n, refl)

pub fill_below_notified-requires : goal.fill_below_notified-requires
fill_below_notified-requires c = record { borne_in = (c.requires.runnable.book, users-are (goal.at.fill_below_notified-requires c).After-user_count-n, trades-are (goal.at.fill_below_notified-requires c).After-trade_count-m); below_notified_value = refl }

pub fill_targets-requires : goal.fill_targets-requires
fill_targets-requires c = let r = c.requires.runnable in
    let l = c.requires.listed in record { day_of = accepted_day r.risk.opened r.risk.prices_are; opening = (run_opening r.risk l (users-are (goal.at.fill_targets-requires c).After-user_count-n) c.fill_positions.ensures.0 c.fill_below_notified.ensures, refl, refl) }

pub copy_sales-requires : goal.copy_sales-requires
copy_sales-requires c = let l = c.requires.listed in
    (l.sales.few, l.room.standing_room, refl)

pub run_on-noted-requires : goal.run_on-noted-requires
run_on-noted-requires c = let r = c.requires.runnable in
    let l = c.requires.listed in
    record {
      run_of = (run_stays r.risk l, users-are (goal.at.run_on-noted-requires c).After-user_count-n);
      going = run_going r.risk l c.copy_sales.ensures.0 c.copy_sales.ensures.1
          c.fill_positions.ensures.0 c.fill_positions.ensures.1 c.fill_targets.ensures.0 c.fill_targets.ensures.1 c.fill_targets.ensures.2;
      origins_in = (listed_origins l, c.requires.count_bound.0, c.requires.count_bound.1);
    }

pub lost_of-requires : goal.lost_of-requires
lost_of-requires c = ran_left c.requires.runnable.book.accepted.sound c.requires.listed c.run_on-noted.ensures.ran

pub apply-requires : goal.apply-requires
apply-requires c = let r = c.requires.runnable in record { book_in = (c.requires.book_in, lost_cuttable r.book.accepted.sound c.requires.listed c.run_on-noted.ensures.ran c.lost_of.ensures); n_value = users-are (goal.at.apply-requires c).After-user_count-n }

pub returns : goal.returns
returns c = let noted = c.run_on-noted.ensures in
    noted_in noted (ran_in c.requires.runnable.book.accepted.sound c.requires.listed noted.ran c.lost_of.ensures c.apply.ensures)
