use Rattle.book_records.specs.User.{user_of}
use Rattle.book_tables.specs.Record.{as_record, blank_record}
use Rattle.book_tables.proofs.RecordsRead.{Reading}
use Rattle.book_tables.proofs.read_users.Given as goal

abbrev pub invariant-loop-i : goal.invariant-loop-i
invariant-loop-i l = Reading as_record l.size user_of 64 blank_record l.s l.at l.n l.users l.i l.a
