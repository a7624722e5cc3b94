use Rattle.units.specs.Limits.{as_limits}
use Rattle.book_format.specs.Book.{book_of}
use Rattle.call_warning.proofs.Ways.{Unwarned}
use Rattle.call_warning.specs.Warned.{buyer_is_warned}
use Rattle.call_warning.proofs.any_warns.Given as goal

abbrev pub invariant-loop-i : goal.invariant-loop-i
invariant-loop-i l = Unwarned (buyer_is_warned (as_limits l.day.limits) (book_of l.book) l.id) l.book l.i
