-- `write_record`: the user's 56 bytes, and behind them the managers where there is room for them. Assumes nothing.
use Rattle.base.specs.Basics.{sym, ◌∙◌, ◌≤◌, arith, length, length-take-le}
use Rattle.fields.proofs.Field.{length-set_field}
use Rattle.fields.specs.Layout.{set_fields}
use Rattle.book_records.specs.User.{manager_values, manager_widths}
use Rattle.book_tables.specs.Record.{as_managers}
use Rattle.book_tables.proofs.Managed.{front_length, managed_size, plain_size, record_plain, record_written, size_least}
use Rattle.book_tables.proofs.write_record.Goals as goal
use Rattle.book_tables.proofs.write_record.Goals.{Start}

-- there are 56 bytes at least
least : (c : goal.Start) → 56 ≤ length c.args.c.now
least c = omega (arith, c.requires, size_least c.args.managed)

pub slice_bounds-write_user-end-2 : goal.slice_bounds-write_user-end-2
slice_bounds-write_user-end-2 c = sym (length-take-le 56 c.args.c.now (least (goal.at.slice_bounds-write_user-end-2 c).Start))

pub write_user-requires : goal.write_user-requires
write_user-requires c = length-take-le 56 c.args.c.now (least (goal.at.write_user-requires c).Start)

pub put_u32-requires : goal.put_u32-requires
put_u32-requires c = let e = c.if-managed.true in
    rw c.write_user.ensures (omega (arith, c.requires, managed_size c.args.managed e, front_length c.args.c.now c.args.r.user (least (goal.at.put_u32-requires c).Start)))

pub put_u32-requires-then-managed : goal.put_u32-requires-then-managed
put_u32-requires-then-managed c = let e = c.if-managed.true in
    rw (c.put_u32.ensures, length-set_field, c.write_user.ensures) (omega (arith, c.requires, managed_size c.args.managed e, front_length c.args.c.now c.args.r.user (least (goal.at.put_u32-requires-then-managed c).Start)))

pub put_u32-requires-then-managed-2 : goal.put_u32-requires-then-managed-2
put_u32-requires-then-managed-2 c = let e = c.if-managed.true in
    rw (c.put_u32-then-managed.ensures, length-set_field, c.put_u32.ensures, length-set_field, c.write_user.ensures)
    (omega (arith, c.requires, managed_size c.args.managed e, front_length c.args.c.now c.args.r.user (least (goal.at.put_u32-requires-then-managed-2 c).Start)))

pub returns-then-managed : goal.returns-then-managed
unfolding set_fields manager_widths manager_values as_managers
returns-then-managed c = let e = c.if-managed.true in
    c.put_u32-then-managed-2.ensures
    ∙ rw (c.put_u32-then-managed.ensures, c.put_u32.ensures, c.write_user.ensures, e) (record_written c.args.c.now c.args.r (c.requires ∙ managed_size c.args.managed e))

pub returns-else-managed : goal.returns-else-managed
returns-else-managed c = let e = c.if-managed.false in
    rw (c.write_user.ensures, e) (record_plain c.args.c.now c.args.r (c.requires ∙ plain_size c.args.managed e))

pub slice_bounds-write_user-end : goal.slice_bounds-write_user-end
slice_bounds-write_user-end c = least (goal.at.slice_bounds-write_user-end c).Start
