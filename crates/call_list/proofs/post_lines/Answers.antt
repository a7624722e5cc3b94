-- `post_lines`: what is left of the list gives the whole, line by line. Assumes nothing.
use Rattle.base.specs.Basics.{◌≡◌, arith, pos, get_or, length, rules}
use mir.Syntax.{w64}
use mir.ValLaws.{to_z-of_z}
use Rattle.call_list.proofs.Turns.{going_end, going_more, going_start}
use Rattle.call_list.proofs.post_lines.Goals as goal
use Rattle.call_list.proofs.post_lines.Goals.{In-loop-i}

pub loop-i-init : goal.loop-i-init
loop-i-init c = going_start (λ j. (c.type_inv.book j).fits) c.requires.known c.requires.even.of_places

-- the columns are as long as the ids, and so are the places
even : (c : goal.In-loop-i) → let a = c.args in
    (length a.areas.now ≡ length a.ids.now) × (length a.amounts.now ≡ length a.ids.now) × (length c.loop-i.places ≡ length a.ids.now)
even c = let p = c.requires.even in (p.of_areas, p.of_amounts, c.loop-i.invariant.room)

pub line-posted-requires : goal.line-posted-requires
line-posted-requires c = record { known = c.loop-i.invariant.searched; guesses = c.requires.guesses }

pub loop-i-preserved : goal.loop-i-preserved
loop-i-preserved c = let z = get_or c.args.amounts.now c.loop-i.i (pos 0) in
    going_more c.number_of.result c.loop-i.invariant c.loop-i-test.true c.requires.even.of_areas c.requires.even.of_amounts
    (λ limits. rw c.number_of.ensures (rw (to_z-of_z w64 z (record { sfits = c.line-arg-in-loop-i-1.given })) at (c.line-posted.ensures limits)))
    (search rules)

pub returns : goal.returns
returns c = going_end c.loop-i.invariant c.loop-i-test.false

pub offset_bounds-areas-i : goal.offset_bounds-areas-i
offset_bounds-areas-i c = omega (arith, even (goal.at.offset_bounds-areas-i c).In-loop-i)

pub bounds-areas-i : goal.bounds-areas-i
bounds-areas-i c = omega (arith, even (goal.at.bounds-areas-i c).In-loop-i)

pub offset_bounds-amounts-i : goal.offset_bounds-amounts-i
offset_bounds-amounts-i c = omega (arith, even (goal.at.offset_bounds-amounts-i c).In-loop-i)

pub bounds-amounts-i : goal.bounds-amounts-i
bounds-amounts-i c = omega (arith, even (goal.at.bounds-amounts-i c).In-loop-i)

pub offset_bounds-places-i : goal.offset_bounds-places-i
offset_bounds-places-i c = omega (arith, even (goal.at.offset_bounds-places-i c).In-loop-i)

pub bounds-places-i : goal.bounds-places-i
bounds-places-i c = omega (arith, even (goal.at.bounds-places-i c).In-loop-i)

pub shape_of-book : goal.shape_of-book
shape_of-book c = c.loop-i.invariant.whole
