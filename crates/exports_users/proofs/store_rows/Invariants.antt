use Rattle.exports_users.proofs.Rows.{RowsStored}
use Rattle.exports_users.proofs.store_rows.Given as goal

abbrev pub invariant-loop-i : goal.invariant-loop-i
invariant-loop-i l = RowsStored l.users l.initial.answer l.answer l.i
