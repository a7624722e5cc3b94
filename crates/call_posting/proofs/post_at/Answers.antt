-- `post_at` leaves by one of three ways: no such area, out of range, or the two fields of the record set. Assumes nothing.
use Rattle.base.specs.Basics.{◌≡◌, ◌∙◌, ap, subst⁻¹, ℕ, ◌*◌, ◌+◌, ◌<◌, ◌≤◌, arith, length}
use mir.Syntax.{w64}
use mir.ValLaws.{to_z-of_z}
use Rattle.fields.proofs.Field.{length-set_field}
use Rattle.fields.specs.Field.{field, set_field}
use Rattle.book_format.proofs.Passed.{passed}
use Rattle.book_format.specs.Book.{place_of_user}
use Rattle.book_format.specs.Places.{UserIn}
use Rattle.call_posting.proofs.Ways.{at_accepted, at_no_area, at_out_of_range, at_ready}
use Rattle.call_posting.specs.Posting.{PostedAt}
use Rattle.call_posting.proofs.post_at.Goals as goal
use Rattle.call_posting.proofs.post_at.Goals.{After-user_offset_from, Else-area-gt2}

user-in : (c : goal.Else-area-gt2) → UserIn c.args.book.now c.args.place
user-in c = record { form = (passed c.args.book.now c.requires.0).form; inside = c.requires.1 }

area-low : (c : goal.Else-area-gt2) → c.args.area < 3
area-low c = omega (arith, c.if-area-gt2.false)

-- the record lies in the book
inside : (c : goal.After-user_offset_from) → let a = c.args in (c.user_offset_from.result + 56 ≤ length a.book.now) × (a.area < 3)
inside c = (c.user_offset_from.ensures.1, area-low (goal.at.After-user_offset_from c).Else-area-gt2)

-- the two fields stand in the record of the user at the place
entry_at : (c : goal.After-user_offset_from) → let a = c.args in
    field 4 (c.user_offset_from.result + (8 + 4 * a.area)) a.book.now ≡ field 4 (place_of_user a.book.now a.place + (8 + 4 * a.area)) a.book.now
entry_at c = let a = c.args in ap (λ (n : ℕ). field 4 (n + (8 + 4 * a.area)) a.book.now) c.user_offset_from.ensures.0

position_at : (c : goal.After-user_offset_from) → let a = c.args in
    field 4 (c.user_offset_from.result + (8 + 4 * a.area) + 12) a.book.now ≡ field 4 (place_of_user a.book.now a.place + (8 + 4 * a.area) + 12) a.book.now
position_at c = let a = c.args in ap (λ (n : ℕ). field 4 (n + (8 + 4 * a.area) + 12) a.book.now) c.user_offset_from.ensures.0

pub returns-then-area-gt2 : goal.returns-then-area-gt2
returns-then-area-gt2 c = at_no_area c.args.book.now c.args.place c.args.area c.args.amount c.requires.0 c.requires.1 c.if-area-gt2.true

pub post-requires : goal.post-requires
post-requires c = at_ready c.args.book.now c.args.place c.args.area c.args.amount c.requires.0 c.requires.1 (area-low (goal.at.post-requires c).Else-area-gt2)
    (c.get_u32-entry.ensures ∙ entry_at (goal.at.post-requires c).After-user_offset_from) (c.get_u32-position.ensures ∙ position_at (goal.at.post-requires c).After-user_offset_from)

pub returns-in_default : goal.returns-in_default
returns-in_default c = at_out_of_range c.args.book.now c.args.place c.args.area c.args.amount c.requires.0 c.requires.1 (area-low (goal.at.returns-in_default c).Else-area-gt2)
    (c.get_u32-entry.ensures ∙ entry_at (goal.at.returns-in_default c).After-user_offset_from) (c.get_u32-position.ensures ∙ position_at (goal.at.returns-in_default c).After-user_offset_from)
    (rw (to_z-of_z w64 c.args.amount c.ranges.amount) at c.in_default.ensures)

pub put_u32-requires-2 : goal.put_u32-requires-2
put_u32-requires-2 c = let a = c.args in
    omega (arith, inside (goal.at.put_u32-requires-2 c).After-user_offset_from, ap length c.put_u32.ensures, length-set_field 4 (c.user_offset_from.result + (8 + 4 * a.area)) c.in-Some.change.entry a.book.now)

pub returns : goal.returns
returns c = let a = c.args in
    let o = c.user_offset_from in
    let i = o.result + (8 + 4 * a.area) in
    subst⁻¹ (PostedAt a.place a.area a.amount a.book.now 0) (c.put_u32-2.ensures ∙ ap (set_field 4 (i + 12) c.in-Some.change.position) c.put_u32.ensures
    ∙ ap (λ (n : ℕ). set_field 4 (n + (8 + 4 * a.area) + 12) c.in-Some.change.position (set_field 4 (n + (8 + 4 * a.area)) c.in-Some.change.entry a.book.now)) o.ensures.0)
    (at_accepted a.book.now a.place a.area a.amount c.requires.0 c.requires.1 (area-low (goal.at.returns c).Else-area-gt2)
    (c.get_u32-entry.ensures ∙ entry_at (goal.at.returns c).After-user_offset_from) (c.get_u32-position.ensures ∙ position_at (goal.at.returns c).After-user_offset_from)
    (rw (to_z-of_z w64 a.amount c.ranges.amount) at c.in-Some.ensures) (λ j. (c.slice_known-1.given j).fits))

pub user_offset_from-requires : goal.user_offset_from-requires
user_offset_from-requires c = (user-in c, c.requires.2, c.requires.3)

pub overflow_mul-a : goal.overflow_mul-a
overflow_mul-a c = omega (arith, inside c)

pub overflow_add-a : goal.overflow_add-a
overflow_add-a c = omega (arith, inside c)

pub overflow_add-a-2 : goal.overflow_add-a-2
overflow_add-a-2 c = omega (arith, inside c)

pub get_u32-entry-requires : goal.get_u32-entry-requires
get_u32-entry-requires c = omega (arith, inside c)

pub overflow_add-a-3 : goal.overflow_add-a-3
overflow_add-a-3 c = omega (arith, inside (goal.at.overflow_add-a-3 c).After-user_offset_from)

pub get_u32-position-requires : goal.get_u32-position-requires
get_u32-position-requires c = omega (arith, inside (goal.at.get_u32-position-requires c).After-user_offset_from)

pub put_u32-requires : goal.put_u32-requires
put_u32-requires c = omega (arith, inside (goal.at.put_u32-requires c).After-user_offset_from)

pub overflow_add-a-4 : goal.overflow_add-a-4
overflow_add-a-4 c = omega (arith, inside (goal.at.overflow_add-a-4 c).After-user_offset_from)
