use Rattle.base.specs.Basics.{◌≤◌, get_or}
use Rattle.cut_sets.proofs.Gathering.{Gathering}
use Rattle.book_format.specs.Book.{book_of, users_of}
use Rattle.requests.specs.Cancellation.{whole_worth}
use Rattle.rules.specs.Book.{nobody}
use Rattle.rules.specs.Reduction.{eligible}
use Rattle.call_cancellation.proofs.fill_worths.Given as goal

abbrev pub invariant-loop-i : goal.invariant-loop-i
invariant-loop-i l = (l.i ≤ l.m) × Gathering (eligible (book_of l.book) (get_or (users_of l.book) l.place nobody)) (whole_worth (book_of l.book)) (book_of l.book).trades l.worths l.k l.i
