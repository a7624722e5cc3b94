-- `is_flagged_shipper`: the user at the place of the id is asked. Assumes nothing.
use Rattle.base.specs.Basics.{◌≡◌, sym, ap, ◌∙◌, arith, get_or}
use Rattle.rules.specs.Book.{User, find, nobody}
use Rattle.rules.specs.Levels.{flagged}
use Rattle.units.specs.Limits.{as_limits}
use Rattle.book_format.specs.Book.{book_of, users_of}
use Rattle.call_entry.specs.Entered.{Found}
use Rattle.call_entry.proofs.Calls.{found_at, found_user}
use Rattle.risk_members.proofs.Members.{read_blocked, read_role}
use Rattle.call_warning.proofs.Ways.{blocked_most, flag_at, known_inside, prices_range, shipper_no, shipper_yes}
use Rattle.call_warning.proofs.is_flagged_shipper.Goals as goal
use Rattle.call_warning.proofs.is_flagged_shipper.Goals.{After-place_of-place, After-user_at-seller}

-- the user at the place
found : (p : goal.After-place_of-place) → Found p.args.book.now p.args.id p.place_of-place.result
found p = record { passes = p.requires.priced.0.passes; stands = p.place_of-place.ensures.0; known = omega (arith, p.place_of-place.ensures.0, known_inside p.args.book.now p.args.id p.requires.priced.1) }

role : (u : goal.After-user_at-seller) → u.user_at-seller.result.role ≡ (find (book_of u.args.book.now).users u.args.id).party.role
role u = read_role u.user_at-seller.result (get_or (users_of u.args.book.now) u.place_of-place.result nobody) u.user_at-seller.ensures ∙ ap (λ (v : User). v.party.role) (found_at (found (goal.at.After-user_at-seller u).After-place_of-place))

pub returns-then-seller-ne0 : goal.returns-then-seller-ne0
returns-then-seller-ne0 c = let b = book_of c.args.book.now in
    shipper_no (as_limits c.args.day.limits) b (find b.users c.args.id) (λ h. c.if-seller-ne0.true (role (goal.at.returns-then-seller-ne0 c).After-user_at-seller ∙ h))

pub positions_of-position-requires : goal.positions_of-position-requires
positions_of-position-requires c = (c.requires.priced.0.accepted, (found (goal.at.positions_of-position-requires c).After-place_of-place).known, c.user_at-seller.ensures)

pub flagged-requires : goal.flagged-requires
flagged-requires c = let f = found (goal.at.flagged-requires c).After-place_of-place in
    (c.requires.limits_in_range, prices_range c.requires.priced.0, blocked_most c.args.book.now f.passes f.known c.user_at-seller.result c.user_at-seller.ensures)

pub returns : goal.returns
returns c = let bytes = c.args.book.now in
    let b = book_of bytes in
    let l = as_limits c.args.day.limits in
    let f = found (goal.at.returns c).After-place_of-place in
    let v = get_or (users_of bytes) c.place_of-place.result nobody in
    c.flagged.ensures v (read_blocked c.user_at-seller.result v c.user_at-seller.ensures)
    ∙ flag_at bytes f.passes f.known l c.args.day.prices (sym c.requires.priced.0.same) c.positions_of-position.result c.positions_of-position.ensures
    ∙ ap (flagged l b) (found_at f)
    ∙ shipper_yes l b (find b.users c.args.id) (sym (role (goal.at.returns c).After-user_at-seller) ∙ c.if-seller-ne0.false)

pub place_of-place-requires : goal.place_of-place-requires
place_of-place-requires c = c.requires.priced.0.accepted.held.form

pub user_at-seller-requires : goal.user_at-seller-requires
user_at-seller-requires c = found_user (found c)
