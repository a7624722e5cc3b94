use Rattle.book_format.specs.Book.{book_of}
use Rattle.log_questions.specs.Form.{cuts_from}
use Rattle.units.specs.Prices.{as_prices}
use Rattle.log_withdrawal.proofs.Tallies.{TalliedTo}
use Rattle.log_withdrawal.proofs.tally.Given as goal

abbrev pub invariant-loop-k : goal.invariant-loop-k
invariant-loop-k l = TalliedTo (as_prices l.prices) (cuts_from l.m 0 l.entry) (book_of l.book).trades l.so_far l.k
