-- `place_of`: the place among the users that are left, behind those passed, is the place among all, until one has the id or none is left. Assumes nothing.
use Prim.Native.Nat.{◌+◌, ◌≤◌}
use native.Mathlib.Omega.{arith}
use lib.ListN.{length}
use Rattle.book_format.proofs.Places.{record_lies, user_lies}
use Rattle.book_format.specs.Places.{UserIn}
use Rattle.call_entry.proofs.Seeking.{seeking_start, seeking_here, seeking_turn, seeking_end}
use Rattle.call_entry.proofs.place_of.Goals as goal
use Rattle.call_entry.proofs.place_of.Goals.{In-loop-i}

pub loop-i-init : goal.loop-i-init
loop-i-init c = seeking_start c.users_offset-a.ensures.value c.user_count-n.ensures

-- the next record lies in the book
lies : (c : goal.In-loop-i) → (c.loop-i.a + 56 ≤ length c.args.s.now) × (c.loop-i.a + c.users_size-size.result ≤ length c.args.s.now)
lies c = let there : UserIn c.args.s.now c.loop-i.i = record { form = c.requires; inside = omega (arith, c.loop-i-test.true, c.loop-i.invariant.count) } in
    (omega (arith, c.loop-i.invariant.place, user_lies there), omega (arith, c.loop-i.invariant.place, record_lies there, c.users_size-size.ensures.value))

pub get_u32-requires : goal.get_u32-requires
get_u32-requires c = omega (arith, (lies c).0)

pub returns-then-get_u32-id : goal.returns-then-get_u32-id
returns-then-get_u32-id c = let l = c.loop-i in
    (seeking_here c.get_u32.result l.invariant (omega arith) c.get_u32.ensures c.if-get_u32-id.true, omega (arith, l.invariant.within, l.invariant.count))

pub overflow_add-a : goal.overflow_add-a
overflow_add-a c = omega (arith, (lies (goal.at.overflow_add-a c).In-loop-i).1, c.ranges)

pub loop-i-preserved : goal.loop-i-preserved
loop-i-preserved c = let l = c.loop-i in
    rw c.users_size-size.ensures.value (seeking_turn c.get_u32.result l.invariant (omega arith) c.get_u32.ensures c.if-get_u32-id.false)

pub returns : goal.returns
returns c = let l = c.loop-i in (seeking_end l.invariant (omega arith), omega (arith, l.invariant.count))
