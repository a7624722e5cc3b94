-- `write_users` writes one record more at each turn, to where the last one ended. Assumes nothing.
use Rattle.base.specs.Basics.{◌≡◌, sym, ◌∙◌, ◌+◌, ◌-◌, ◌≤◌, arith, eqb, length, rules}
use Rattle.fields.proofs.Sets.{length_part}
use Rattle.book_format.proofs.Offsets.{size_lies}
use Rattle.book_records.proofs.Users.{length-record_bytes}
use Rattle.book_tables.specs.Record.{as_record}
use Rattle.book_tables.proofs.RecordsWritten.{writing_start, writing_turn, writing_end}
use Rattle.book_tables.proofs.write_users.Goals as goal
use Rattle.book_tables.proofs.write_users.Goals.{In-loop-i}

-- the record at hand lies in the bytes
lies : (c : goal.In-loop-i) → c.loop-i.a + c.args.size ≤ length c.loop-i.out
lies c = let l = c.loop-i in
    omega (arith, size_lies c.args.size l.i c.args.n (omega (arith, c.loop-i-test.true)), l.invariant.place, l.invariant.kept, c.requires.2)

pub overflow_add-a : goal.overflow_add-a
overflow_add-a c = omega (arith, lies (goal.at.overflow_add-a c).In-loop-i, c.loop-i.invariant.kept, c.ranges)

pub write_record-requires : goal.write_record-requires
write_record-requires c = let l = c.loop-i in
    let k : l.a + c.args.size - l.a ≡ c.args.size = omega arith in
    rw k (length_part l.out l.a c.args.size (lies (goal.at.write_record-requires c).In-loop-i) ∙ c.requires.1.size_is)

pub overflow_add-a-in-loop-i : goal.overflow_add-a-in-loop-i
overflow_add-a-in-loop-i c = omega (arith, lies (goal.at.overflow_add-a-in-loop-i c).In-loop-i, c.loop-i.invariant.kept, c.ranges)

pub loop-i-preserved : goal.loop-i-preserved
loop-i-preserved c = writing_turn _ (λ u. length-record_bytes (eqb c.args.size 68) (as_record u) ∙ sym c.requires.1.size_is) c.loop-i.invariant (omega arith) (search rules) (lies (goal.at.loop-i-preserved c).In-loop-i)
    c.write_record.ensures

pub loop-i-init : goal.loop-i-init
loop-i-init c = writing_start

pub slice_bounds-write_record-end : goal.slice_bounds-write_record-end
slice_bounds-write_record-end c = omega (arith, lies (goal.at.slice_bounds-write_record-end c).In-loop-i)

pub shape_of-out : goal.shape_of-out
shape_of-out c = c.loop-i.invariant.kept

pub returns : goal.returns
returns c = (writing_end c.loop-i.invariant (omega arith), search rules)
