-- `fields_valid`: the users that are left have the whole answer, until one fails a test or none is left; the ids of those passed are listed. Assumes nothing.
use Rattle.base.specs.Basics.{◌≡◌, zero-add, ap, sym, ◌∙◌, Bool, ◌&&◌, ℕ, ◌+◌, ◌*◌, ◌≤◌, arith, ltb, length, length-take, length-drop, length-replicate}
use Rattle.base.specs.Basics.{rules}
use Rattle.rules.specs.Questions.{user_is_valid}
use Rattle.book_records.specs.User.{as_user}
use Rattle.book_sums.proofs.Walk.{record_lies}
use Rattle.book_questions.proofs.Asking.{users_walk_start, users_walk_id_no, users_walk_no, users_walk_turn, users_walk_end}
use Rattle.book_questions.proofs.fields_valid.Goals as goal
use Rattle.book_questions.proofs.fields_valid.Goals.{After-user_valid, In-loop-i}

-- the bytes of the user at hand stand there, and those of its record
lies : (c : goal.In-loop-i) → (c.args.size * c.loop-i.i + 56 ≤ length c.args.s.now) × (c.args.size * c.loop-i.i + c.args.size ≤ length c.args.s.now)
lies c = record_lies c.args.size 0 c.args.n c.loop-i.i c.requires.1 (sym (zero-add _)) (omega (arith, c.loop-i-test.true)) (omega (arith, c.requires.2))

pub returns-then-u-last : goal.returns-then-u-last
unfolding as_user
returns-then-u-last c = users_walk_id_no c.requires.1 c.loop-i.invariant (omega arith) (sym (zero-add _)) c.read_user-u.ensures c.if-u-last.true

pub overflow_add-a-in-loop-i : goal.overflow_add-a-in-loop-i
overflow_add-a-in-loop-i c = omega (arith, (lies (goal.at.overflow_add-a-in-loop-i c).In-loop-i).0, c.ranges)

-- the user that was read is valid as the answer says, beside any other test
valid-as : (c : goal.After-user_valid) (test : Bool) {answer : Bool} → (test && c.user_valid.result) ≡ answer → (test && user_is_valid (as_user c.read_user-u.result)) ≡ answer
valid-as c test e = ap (λ (b : Bool). test && b) (sym c.user_valid.ensures) ∙ e

pub shape_of-ids-then-not-role-user_valid : goal.shape_of-ids-then-not-role-user_valid
shape_of-ids-then-not-role-user_valid c = c.loop-i.invariant.listed.full ∙ sym (ap length c.requires.3 ∙ length-replicate {A = ℕ} 64 4294967295)

pub returns-then-not-role-user_valid : goal.returns-then-not-role-user_valid
returns-then-not-role-user_valid c = users_walk_no c.requires.1 c.loop-i.invariant (omega (arith, c.loop-i-test.true)) (sym (zero-add _)) c.read_user-u.ensures
    c.get_u32-role.ensures (valid-as (goal.at.returns-then-not-role-user_valid c).After-user_valid (ltb c.get_u32-role.result 2) c.if-not-role-user_valid.true)

pub loop-i-preserved : goal.loop-i-preserved
unfolding as_user
loop-i-preserved c = users_walk_turn c.requires.1 c.loop-i.invariant (omega (arith, c.loop-i-test.true)) (sym (zero-add _)) c.read_user-u.ensures
    c.get_u32-role.ensures c.requires.0 c.if-u-last.false (valid-as (goal.at.loop-i-preserved c).After-user_valid (ltb c.get_u32-role.result 2) c.if-not-role-user_valid.false)

pub loop-i-init : goal.loop-i-init
loop-i-init c = users_walk_start c.requires.3

pub overflow_add-a : goal.overflow_add-a
overflow_add-a c = omega (arith, (lies c).0, c.ranges)

pub slice_bounds-read_user-end : goal.slice_bounds-read_user-end
slice_bounds-read_user-end c = omega (arith, (lies c).0)

pub read_user-u-requires : goal.read_user-u-requires
read_user-u-requires c = simp (length-take, length-drop) (omega (arith, (lies (goal.at.read_user-u-requires c).In-loop-i).0))

pub get_u32-role-requires : goal.get_u32-role-requires
get_u32-role-requires c = omega (arith, (lies (goal.at.get_u32-role-requires c).In-loop-i).0)

pub returns : goal.returns
returns c = users_walk_end c.loop-i.invariant (omega arith) (search rules)
