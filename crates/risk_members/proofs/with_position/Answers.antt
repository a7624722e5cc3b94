-- `with_position`: the position of the user in the area, added to the sum. Assumes nothing.
use Rattle.base.specs.Basics.{arith, get_or}
use Rattle.book_format.proofs.Passed.{length-users_of}
use Rattle.book_format.specs.Book.{users_of}
use Rattle.rules.specs.Book.{at, nobody}
use Rattle.risk_members.proofs.Members.{Amount, position_read}
use Rattle.risk_members.proofs.Sums.{sum_fits, sum_with}
use Rattle.risk_members.proofs.with_position.Goals as goal
use Rattle.risk_members.proofs.with_position.Goals.{After-user_at-user}

-- its position
position : (c : goal.After-user_at-user)
    → Amount (get_or c.user_at-user.result.position c.args.area (record { 0 = 0 }))
    (at (get_or (users_of c.args.book.now) c.args.place nobody).position c.args.area)
position c = position_read c.args.book.now c.requires.0 c.requires.1 c.requires.2 c.user_at-user.result c.user_at-user.ensures

pub returns : goal.returns
returns c id counts t = let a = c.args in
    sum_with (users_of a.book.now) id a.area (λ v. v.position) t (position (goal.at.returns c).After-user_at-user).near
    (omega (arith, c.requires.1, length-users_of a.book.now)) (omega (arith, c.requires.1, c.requires.0.held.form.users))
    (position (goal.at.returns c).After-user_at-user).is counts c.with_amount.ensures

pub user_at-user-requires : goal.user_at-user-requires
user_at-user-requires c = record { form = c.requires.0.held.form; inside = c.requires.1 }

pub with_amount-requires : goal.with_amount-requires
with_amount-requires c = sum_fits c.requires.3 (position (goal.at.with_amount-requires c).After-user_at-user).near
