-- `read_users` reads one record more at each turn, from where the last one ended, into an array that is blank past it. Assumes nothing.
use Rattle.base.specs.Basics.{◌≡◌, ◌∙◌, ◌+◌, ◌-◌, ◌≤◌, arith, length}
use Rattle.fields.proofs.Sets.{length_part}
use Rattle.book_format.proofs.Offsets.{size_lies}
use Rattle.book_tables.proofs.RecordsRead.{reading_start, reading_turn, reading_end}
use Rattle.book_tables.proofs.read_users.Goals as goal
use Rattle.book_tables.proofs.read_users.Goals.{In-loop-i}

-- the record at hand lies in the bytes
lies : (c : goal.In-loop-i) → c.loop-i.a + c.args.size ≤ length c.args.s.now
lies c = omega (arith, size_lies c.args.size c.loop-i.i c.args.n (omega (arith, c.loop-i-test.true)), c.loop-i.invariant.place, c.requires.2)

pub read_record-requires : goal.read_record-requires
read_record-requires c = let a = c.loop-i.a in
    let k : a + c.args.size - a ≡ c.args.size = omega arith in
    rw k (length_part c.args.s.now a c.args.size (lies (goal.at.read_record-requires c).In-loop-i) ∙ c.requires.1.size_is)

pub overflow_add-a-in-loop-i : goal.overflow_add-a-in-loop-i
overflow_add-a-in-loop-i c = omega (arith, lies (goal.at.overflow_add-a-in-loop-i c).In-loop-i, c.ranges)

pub loop-i-preserved : goal.loop-i-preserved
loop-i-preserved c = reading_turn c.loop-i.invariant (omega arith) (omega arith) c.read_record.ensures

pub loop-i-init : goal.loop-i-init
loop-i-init c = reading_start c.no_record-blank.ensures

pub overflow_add-a : goal.overflow_add-a
overflow_add-a c = omega (arith, lies c, c.ranges)

pub slice_bounds-read_record-end : goal.slice_bounds-read_record-end
slice_bounds-read_record-end c = omega (arith, lies c)

pub returns : goal.returns
returns c = reading_end c.loop-i.invariant (omega arith)
