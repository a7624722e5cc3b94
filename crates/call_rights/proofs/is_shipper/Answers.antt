-- `is_shipper`: who stands in no place is none; else the user at the place is asked. Assumes nothing.
use Rattle.base.specs.Basics.{List, ℕ, arith}
use Rattle.book_format.proofs.Passed.{passed}
use Rattle.call_entry.specs.Entered.{Found}
use Rattle.call_entry.proofs.Calls.{found_user}
use Rattle.call_rights.proofs.Ways.{at_a_place, in_no_place}
use Rattle.call_rights.proofs.is_shipper.Goals as goal
use Rattle.call_rights.proofs.is_shipper.Goals.{After-place_of-place, Else-n-place}

abbrev bytes : goal.After-place_of-place → List ℕ
bytes c = c.args.book.now

pub place_of-place-requires : goal.place_of-place-requires
place_of-place-requires c = (passed c.args.book.now c.requires).form

pub user_count-n-requires : goal.user_count-n-requires
user_count-n-requires c = omega (arith, (passed c.args.book.now c.requires).form.head)

pub returns-then-n-place : goal.returns-then-n-place
returns-then-n-place c = in_no_place (bytes (goal.at.returns-then-n-place c).After-place_of-place) c.args.id (omega (arith, c.user_count-n.ensures, c.place_of-place.ensures.0, c.if-n-place.true))

-- the user at the place
found : (c : goal.Else-n-place) → Found (bytes (goal.at.Else-n-place c).After-place_of-place) c.args.id c.place_of-place.result
found c = record { passes = c.requires; stands = c.place_of-place.ensures.0; known = omega (arith, c.if-n-place.false, c.user_count-n.ensures) }

pub user_at-user-requires : goal.user_at-user-requires
user_at-user-requires c = found_user (found c)

pub returns : goal.returns
returns c = at_a_place (bytes (goal.at.returns c).After-place_of-place) c.args.id c.user_at-user.result (found (goal.at.returns c).Else-n-place) c.user_at-user.ensures
