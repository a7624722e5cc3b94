use Rattle.base.specs.Basics.{eqb}
use Rattle.book_records.specs.User.{record_bytes}
use Rattle.book_tables.specs.Record.{as_record}
use Rattle.book_tables.proofs.RecordsWritten.{Writing}
use Rattle.book_tables.proofs.write_users.Given as goal

abbrev pub invariant-loop-i : goal.invariant-loop-i
invariant-loop-i l = Writing (λ u. record_bytes (eqb l.size 68) (as_record u)) l.size l.users l.initial.out l.at l.n l.out l.i l.a
