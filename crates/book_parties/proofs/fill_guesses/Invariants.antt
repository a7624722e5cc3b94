use Rattle.base.specs.Basics.{◌≤◌}
use Rattle.book_parties.specs.Ids.{Guesses}
use Rattle.book_parties.proofs.fill_guesses.Given as goal

abbrev pub invariant-loop-i : goal.invariant-loop-i
invariant-loop-i l = (l.i ≤ l.n) × Guesses l.guesses l.n
