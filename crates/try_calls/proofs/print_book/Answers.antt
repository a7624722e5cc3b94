-- `try_calls::print_book`: the counts of a book that was opened are those of a book. Assumes nothing.
use mathlib.Core.Path.{refl, sym}
use native.Mathlib.Omega.{arith}
use Rattle.std.proofs.Common.{List, ℕ, ◌≤◌}
use Rattle.book_format.proofs.Passed.{passed}
use Rattle.book_tables.specs.declared.Book.{Book}
use Rattle.book_value.specs.Opened.{Opened}
use Rattle.try_calls.proofs.print_book.Goals as goal

opened_trades : {s : List ℕ} {b : Book} → Opened s 0 b → b.trade_count ≤ 256
opened_trades {s} o = omega (arith, (o.book refl).trades, (passed s (sym o.asked)).form.trades)

opened_users : {s : List ℕ} {b : Book} → Opened s 0 b → b.user_count ≤ 64
opened_users {s} o = omega (arith, (o.book refl).users, (passed s (sym o.asked)).form.users)

pub print_standing-requires : goal.print_standing-requires
print_standing-requires g c = opened_trades c.in-Ok.ensures

pub print_users-requires : goal.print_users-requires
print_users-requires g c = opened_users c.in-Ok.ensures
