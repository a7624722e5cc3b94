-- `read_record`: the user of the first 56 bytes, and the managers. Assumes nothing.
use Rattle.base.specs.Basics.{sym, ◌≤◌, arith, length, length-take-le}
use Rattle.book_tables.proofs.Managed.{record_read, size_least}
use Rattle.book_tables.proofs.read_record.Goals as goal
use Rattle.book_tables.proofs.read_record.Goals.{Start}

-- there are 56 bytes at least
least : (c : goal.Start) → 56 ≤ length c.args.c.now
least c = omega (arith, c.requires, size_least c.args.managed)

pub slice_bounds-read_user-end : goal.slice_bounds-read_user-end
slice_bounds-read_user-end c = sym (length-take-le 56 c.args.c.now (least (goal.at.slice_bounds-read_user-end c).Start))

pub returns : goal.returns
returns c = record_read c.args.c.now _ _ c.read_user.ensures c.read_managers.ensures

pub read_user-requires : goal.read_user-requires
read_user-requires c = length-take-le 56 c.args.c.now (least (goal.at.read_user-requires c).Start)
