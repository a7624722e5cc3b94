-- `with_member`: what the user has in the area, added to what is held. Assumes nothing.
use Rattle.base.specs.Basics.{◌∙◌, ◌+◌, ◌*◌, ◌<◌, arith, length, get_or}
use Rattle.book_format.proofs.Passed.{length-users_of}
use Rattle.book_format.specs.Book.{trades_of, users_of}
use Rattle.rules.specs.Book.{User, at, bought, nobody, sold}
use Rattle.risk_user.proofs.Held.{at_sum}
use Rattle.risk_members.proofs.Members.{Amount, entry_read, position_read}
use Rattle.risk_members.proofs.Sums.{count_with, sum_fits, sum_with}
use Rattle.risk_members.proofs.with_member.Goals as goal
use Rattle.risk_members.proofs.with_member.Goals.{After-user_at-user, Start}

abbrev user : goal.Start → User
user s = get_or (users_of s.args.book.now) s.args.place nobody

-- the place is one of 64, and the last of its sums one of 768
few : (s : goal.Start) → (s.args.place < 64) × (12 * s.args.place + s.args.area + 9 < 768)
few s = let l : s.args.place < 64 = omega (arith, s.requires.2, s.requires.0.held.form.users) in (l, omega (arith, s.requires.3))

-- its amounts
entry : (c : goal.After-user_at-user)
    → Amount (get_or c.user_at-user.result.physical c.args.area (record { 0 = 0 })) (at (user (goal.at.After-user_at-user c).Start).physical c.args.area)
entry c = entry_read c.args.book.now c.requires.0 c.requires.2 c.requires.3 c.user_at-user.result c.user_at-user.ensures

position : (c : goal.After-user_at-user)
    → Amount (get_or c.user_at-user.result.position c.args.area (record { 0 = 0 })) (at (user (goal.at.After-user_at-user c).Start).position c.args.area)
position c = position_read c.args.book.now c.requires.0 c.requires.2 c.requires.3 c.user_at-user.result c.user_at-user.ensures

pub returns : goal.returns
returns c id counts t = let a = c.args in
    let us = users_of a.book.now in
    let ts = trades_of a.book.now in
    let xs = a.sums.now in
    let here : a.place < length us = omega (arith, c.requires.2, length-users_of a.book.now) in
    let k = 12 * a.place + a.area in
    let low = c.requires.1.low.low in
    let w = c.requires.1.twelve in
    record {
      physical = sum_with us id a.area (λ v. v.physical) t.physical (entry (goal.at.returns c).After-user_at-user).near here (few (goal.at.returns c).Start).0 (entry (goal.at.returns c).After-user_at-user).is counts c.with_amount-physical.ensures;
      position = sum_with us id a.area (λ v. v.position) t.position (position (goal.at.returns c).After-user_at-user).near here (few (goal.at.returns c).Start).0 (position (goal.at.returns c).After-user_at-user).is counts
          c.with_amount-position.ensures;
      sold_day = count_with us id a.area (λ v. sold ts v.party.id a.area 0) t.sold_day (low k) here
          (at_sum xs k (12 * a.place + 3 * 0 + a.area) (omega arith) ∙ w.sold_at a.place a.area 0 here c.requires.3 (omega arith)) counts c.with_sum-sold.ensures;
      bought_day = count_with us id a.area (λ v. bought ts v.party.id a.area 0) t.bought_day (low (k + 6)) here
          (at_sum xs (k + 6) (12 * a.place + 6 + 3 * 0 + a.area) (omega arith) ∙ w.bought_at a.place a.area 0 here c.requires.3 (omega arith)) counts c.with_sum-bought.ensures;
      sold_next_lem = count_with us id a.area (λ v. sold ts v.party.id a.area 1) t.sold_next_lem (low (k + 3)) here
          (at_sum xs (k + 3) (12 * a.place + 3 * 1 + a.area) (omega arith) ∙ w.sold_at a.place a.area 1 here c.requires.3 (omega arith)) counts c.with_sum-sold_next.ensures;
      bought_next_lem = count_with us id a.area (λ v. bought ts v.party.id a.area 1) t.bought_next_lem (low (k + 9)) here
          (at_sum xs (k + 9) (12 * a.place + 6 + 3 * 1 + a.area) (omega arith) ∙ w.bought_at a.place a.area 1 here c.requires.3 (omega arith)) counts c.with_sum-bought_next.ensures;
    }

pub user_at-user-requires : goal.user_at-user-requires
user_at-user-requires c = record { form = c.requires.0.held.form; inside = c.requires.2 }

pub with_amount-physical-requires : goal.with_amount-physical-requires
with_amount-physical-requires c = sum_fits c.requires.4.physical (entry (goal.at.with_amount-physical-requires c).After-user_at-user).near

pub with_amount-position-requires : goal.with_amount-position-requires
with_amount-position-requires c = sum_fits c.requires.4.position (position (goal.at.with_amount-position-requires c).After-user_at-user).near

pub with_sum-sold-requires : goal.with_sum-sold-requires
with_sum-sold-requires c = (omega (arith, few (goal.at.with_sum-sold-requires c).Start), c.requires.4.sold_day)

pub with_sum-sold_next-requires : goal.with_sum-sold_next-requires
with_sum-sold_next-requires c = (omega (arith, few (goal.at.with_sum-sold_next-requires c).Start), c.requires.4.sold_next_lem)

pub with_sum-bought-requires : goal.with_sum-bought-requires
with_sum-bought-requires c = (omega (arith, few (goal.at.with_sum-bought-requires c).Start), c.requires.4.bought_day)

pub overflow_add-k-4 : goal.overflow_add-k-4
overflow_add-k-4 c = omega (arith, few (goal.at.overflow_add-k-4 c).Start)

pub with_sum-bought_next-requires : goal.with_sum-bought_next-requires
with_sum-bought_next-requires c = (omega (arith, few (goal.at.with_sum-bought_next-requires c).Start), c.requires.4.bought_next_lem)
