-- `fill_ids`: the ids of the users passed are listed, until none is left. Assumes nothing.
use Rattle.base.specs.Basics.{◌≡◌, ◌+◌, ◌<◌, ◌≤◌, arith, length}
use Rattle.book_format.proofs.Passed.{passed}
use Rattle.book_format.proofs.Places.{record_lies, user_lies}
use Rattle.book_format.specs.Places.{UserIn}
use Rattle.call_list.proofs.Ids.{filling_end, filling_start, filling_turn}
use Rattle.call_list.proofs.fill_ids.Goals as goal
use Rattle.call_list.proofs.fill_ids.Goals.{In-loop-i}

pub loop-i-init : goal.loop-i-init
loop-i-init c = filling_start c.requires.4 c.requires.2

-- the next record lies in the book, and there is room for its id
inside : (c : goal.In-loop-i) → (c.loop-i.a + 56 ≤ length c.args.book.now) × (c.loop-i.a + c.args.size ≤ length c.args.book.now) × (c.loop-i.i < 64) × (length c.loop-i.known ≡ 64)
inside c = let f = (passed c.args.book.now c.requires.0).form in
    let q = c.loop-i.invariant.place in
    let t = c.loop-i-test.true in
    let there : UserIn c.args.book.now c.loop-i.i = record { form = f; inside = omega (arith, t, c.requires.1) } in
    (omega (arith, q, user_lies there), omega (arith, q, record_lies there, c.requires.3), omega (arith, t, c.requires.1, f.users), c.loop-i.invariant.listed.full)

pub loop-i-preserved : goal.loop-i-preserved
loop-i-preserved c = rw c.requires.3 (filling_turn c.loop-i.invariant c.loop-i-test.true c.requires.1 (passed c.args.book.now c.requires.0).form c.get_u32.ensures)

pub returns : goal.returns
returns c = filling_end c.loop-i.invariant c.loop-i-test.false c.requires.1 c.requires.2 c.requires.3 c.requires.0

pub get_u32-requires : goal.get_u32-requires
get_u32-requires c = omega (arith, inside c)

pub offset_bounds-known-i : goal.offset_bounds-known-i
offset_bounds-known-i c = omega (arith, inside (goal.at.offset_bounds-known-i c).In-loop-i)

pub bounds-known-i : goal.bounds-known-i
bounds-known-i c = omega (arith, inside (goal.at.bounds-known-i c).In-loop-i)

pub overflow_add-a : goal.overflow_add-a
overflow_add-a c = omega (arith, inside (goal.at.overflow_add-a c).In-loop-i)
