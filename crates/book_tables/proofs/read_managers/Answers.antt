-- `read_managers`: three fields behind the 56 bytes, where the record has them. Assumes nothing.
use Rattle.base.specs.Basics.{sym, arith}
use Rattle.book_records.proofs.Users.{managers_past}
use Rattle.book_records.specs.User.{managers_at}
use Rattle.book_tables.proofs.Managed.{managed_size, plain_size}
use Rattle.book_tables.specs.Record.{as_managers}
use Rattle.book_tables.proofs.read_managers.Goals as goal

pub get_u32-requires : goal.get_u32-requires
get_u32-requires c = omega (arith, c.requires, managed_size c.args.managed c.if-managed.true)

pub get_u32-requires-then-managed : goal.get_u32-requires-then-managed
get_u32-requires-then-managed c = omega (arith, c.requires, managed_size c.args.managed c.if-managed.true)

pub get_u32-requires-then-managed-2 : goal.get_u32-requires-then-managed-2
get_u32-requires-then-managed-2 c = omega (arith, c.requires, managed_size c.args.managed c.if-managed.true)

pub returns-then-managed : goal.returns-then-managed
unfolding as_managers managers_at
returns-then-managed c = rw (c.get_u32-then-managed-2.ensures, c.get_u32-then-managed.ensures, c.get_u32.ensures)

pub returns-else-managed : goal.returns-else-managed
unfolding as_managers
returns-else-managed c =
    rw (c.default.ensures.0, c.default.ensures.1.0, c.default.ensures.1.1)
    (sym (managers_past c.args.c.now (omega (arith, c.requires, plain_size c.args.managed c.if-managed.false))))
