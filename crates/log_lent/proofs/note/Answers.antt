-- `note` leaves a log that is not given; else the cuts are its last entry, and it holds the book. Assumes nothing.
use Rattle.base.specs.Basics.{◌≡◌, arith}
use Rattle.log_format.specs.Log.{count_of_entries}
use Rattle.log_lent.proofs.Ways.{noted_lent, noted_not_lent}
use Rattle.log_lent.specs.Lent.{NotableIn}
use Rattle.log_lent.proofs.note.Goals as goal
use Rattle.log_lent.proofs.note.Goals.{After-get_u32-count, Else-not-with_log}

can : (c : goal.Else-not-with_log) → let a = c.args in NotableIn a.log.now a.book.now a.origins.now a.cuts.now a.from a.to
can c = c.requires c.if-not-with_log.false

count : (c : goal.After-get_u32-count) → c.get_u32-count.result ≡ count_of_entries c.args.log.now
unfolding count_of_entries
count c = c.get_u32-count.ensures

pub returns-then-not-with_log : goal.returns-then-not-with_log
returns-then-not-with_log c = noted_not_lent c.if-not-with_log.true

pub get_u32-count-requires : goal.get_u32-count-requires
get_u32-count-requires c = omega (arith, (can c).size)

pub note-requires : goal.note-requires
note-requires c = ((can (goal.at.note-requires c).Else-not-with_log).size, omega (arith, count (goal.at.note-requires c).After-get_u32-count, (can (goal.at.note-requires c).Else-not-with_log).free), (can (goal.at.note-requires c).Else-not-with_log).listed)

pub overflow_add-count : goal.overflow_add-count
overflow_add-count c = omega (arith, count (goal.at.overflow_add-count c).After-get_u32-count, (can (goal.at.overflow_add-count c).Else-not-with_log).free)

pub seal-requires : goal.seal-requires
seal-requires c = (omega (arith, c.note.auto.log, (can (goal.at.seal-requires c).Else-not-with_log).size), (can (goal.at.seal-requires c).Else-not-with_log).held)

pub returns : goal.returns
returns c = noted_lent c.if-not-with_log.false (count (goal.at.returns c).After-get_u32-count) c.note.ensures c.seal.ensures
