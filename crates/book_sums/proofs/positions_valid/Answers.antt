-- `positions_valid`: the users that are left have the whole answer, until a position is not as the sums have it or none is left. Assumes nothing.
use Rattle.base.specs.Basics.{◌≡◌, Bool, List, ◌+◌, ◌≤◌, ◌<◌, arith, length, get_or, length-take, length-drop}
use Rattle.rules.specs.Book.{Trade, nobody}
use Rattle.rules.specs.Questions.{positions_are_valid}
use Rattle.fields.proofs.Records.{length-records_of}
use Rattle.book_parties.specs.Ids.{users_from}
use Rattle.book_sums.specs.Twelve.{TwelveOf}
use Rattle.book_sums.proofs.Twelve.{as_asked}
use Rattle.book_sums.proofs.Walk.{passed_start, passed_no, passed_turn, passed_end, record_first, record_lies, record_next, user_at_lem}
use Rattle.book_sums.proofs.positions_valid.Goals as goal
use Rattle.book_sums.proofs.positions_valid.Goals.{After-user_positions_valid, In-loop-i}

-- the user at hand is one of the n
within : (c : goal.In-loop-i) → c.loop-i.i < length (users_from c.args.size c.args.at c.args.n c.args.s.now)
within c = rw length-records_of (omega arith)

-- and its bytes stand there
lies : (c : goal.In-loop-i) → (c.loop-i.a + 56 ≤ length c.args.s.now) × (c.loop-i.a + c.args.size ≤ length c.args.s.now)
lies c = record_lies c.args.size c.args.at c.args.n c.loop-i.i c.requires.1 c.loop-i.invariant.0 (omega (arith, c.loop-i-test.true)) c.requires.2

-- what the sums said of its positions is what the rules say
asked : {answer : Bool} (c : goal.After-user_positions_valid) → c.user_positions_valid.result ≡ answer → (ts : List Trade)
    → let a = c.args in
    TwelveOf (users_from a.size a.at a.n a.s.now) ts a.sums.now
    → positions_are_valid ts (get_or (users_from a.size a.at a.n a.s.now) c.loop-i.i nobody) ≡ answer
asked c e ts sums = let l = c.loop-i in
    let a = c.args in
    as_asked sums l.i (within (goal.at.After-user_positions_valid c).In-loop-i)
    (user_at_lem a.size a.s.now a.at a.n l.i nobody c.requires.1 l.invariant.0 (omega (arith, c.loop-i-test.true)) c.read_user-u.ensures) c.user_positions_valid.ensures e

pub loop-i-init : goal.loop-i-init
loop-i-init c = (record_first _ _, λ ts sums. passed_start)

pub overflow_add-a : goal.overflow_add-a
overflow_add-a c = omega (arith, (lies c).0, c.ranges)

pub slice_bounds-read_user-start : goal.slice_bounds-read_user-start
slice_bounds-read_user-start c = omega arith

pub slice_bounds-read_user-end : goal.slice_bounds-read_user-end
slice_bounds-read_user-end c = omega (arith, (lies c).0)

pub read_user-u-requires : goal.read_user-u-requires
read_user-u-requires c = simp (length-take, length-drop) (omega (arith, (lies (goal.at.read_user-u-requires c).In-loop-i).0))

pub user_positions_valid-requires : goal.user_positions_valid-requires
user_positions_valid-requires c = omega (arith, c.loop-i-test.true, c.requires.0)

pub returns-then-not-user_positions_valid : goal.returns-then-not-user_positions_valid
returns-then-not-user_positions_valid c = record {
  answer = λ ts sums. passed_no nobody (c.loop-i.invariant.1 ts sums) (within (goal.at.returns-then-not-user_positions_valid c).In-loop-i) (asked (goal.at.returns-then-not-user_positions_valid c).After-user_positions_valid c.if-not-user_positions_valid.true ts sums);
}

pub overflow_add-a-in-loop-i : goal.overflow_add-a-in-loop-i
overflow_add-a-in-loop-i c = omega (arith, (lies (goal.at.overflow_add-a-in-loop-i c).In-loop-i).1, c.ranges)

pub loop-i-preserved : goal.loop-i-preserved
loop-i-preserved c = let l = c.loop-i in
    let a = c.args in (
      record_next a.size a.at l.i l.invariant.0,
      λ ts sums. passed_turn nobody (l.invariant.1 ts sums) (within (goal.at.loop-i-preserved c).In-loop-i) (asked (goal.at.loop-i-preserved c).After-user_positions_valid c.if-not-user_positions_valid.false ts sums),
    )

pub returns : goal.returns
returns c = record { answer = λ ts sums. passed_end (c.loop-i.invariant.1 ts sums) (rw length-records_of (omega arith)) }
