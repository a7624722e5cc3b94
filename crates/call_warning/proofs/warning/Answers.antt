-- `warning` is refused by the entry, refused for a clearing house, or answered by the flag and then by the trades. Assumes nothing.
use Rattle.base.specs.Basics.{◌≡◌, refl, sym, ap, ◌∙◌, ℕ, get_or}
use Rattle.base.specs.Lists.{any}
use Rattle.refusals.proofs.Numbers.{handed_on, refused-nonzero}
use Rattle.rules.specs.Book.{User, find, nobody}
use Rattle.rules.specs.Levels.{flagged}
use Rattle.rules.specs.Queries.{a_warning, only_number}
use Rattle.units.specs.Limits.{as_limits}
use Rattle.book_format.specs.Book.{book_of, users_of}
use Rattle.book_questions.specs.Opened.{OpenedFigures}
use Rattle.book_format.proofs.Places.{header_lies}
use Rattle.risk_members.proofs.Members.{read_blocked, read_id, read_role}
use Rattle.call_entry.proofs.Calls.{found_at, found_user}
use Rattle.call_warning.specs.Warned.{Priced, buyer_is_warned}
use Rattle.call_warning.proofs.Ways.{blocked_most, flag_at, prices_range, warned-flagged, warned_buyer, warning_refused, warning_of_house, warning_found}
use Rattle.call_warning.proofs.warning.Goals as goal
use Rattle.call_warning.proofs.warning.Goals.{After-flagged, After-read_prices-prices, After-user_at-user, In_ok-entry}
use Rattle.std.proofs.Common.{IfOk, subst}

pub returns-in_err-entry : goal.returns-in_err-entry
unfolding only_number
returns-in_err-entry c = rw (handed_on c.from_residual.ensures.1) (warning_refused _ _ c.args.book.now c.args.id c.in_err-entry.ensures.asked (refused-nonzero c.in_err-entry.field-0.0))

-- what the opening questions give
told : (c : goal.In_ok-entry) → OpenedFigures (as_limits c.in_ok-entry.entry.limits) c.args.book.now
told c = subst (λ o. IfOk o (λ limits. OpenedFigures (as_limits limits) c.args.book.now)) c.in_ok-entry.ensures.found.0 c.requires

pub user_at-user-requires : goal.user_at-user-requires
user_at-user-requires c = found_user c.in_ok-entry.ensures.found.1

-- the role that was read is that of the user of the id
role : (c : goal.After-user_at-user) → c.user_at-user.result.role ≡ (find (book_of c.args.book.now).users c.args.id).party.role
role c = read_role c.user_at-user.result (get_or (users_of c.args.book.now) c.in_ok-entry.entry.place nobody) c.user_at-user.ensures ∙ ap (λ (v : User). v.party.role) (found_at c.in_ok-entry.ensures.found.1)

pub returns-then-user-ne0 : goal.returns-then-user-ne0
unfolding only_number
returns-then-user-ne0 c = let f = c.in_ok-entry.ensures.found in
    rw f.0 (warning_of_house 0 _ c.args.book.now c.args.id refl f.1 (λ h. c.if-user-ne0.true (role (goal.at.returns-then-user-ne0 c).After-user_at-user ∙ h)))

pub read_prices-prices-requires : goal.read_prices-prices-requires
read_prices-prices-requires c = header_lies (told (goal.at.read_prices-prices-requires c).In_ok-entry).accepted.held.form

priced : (c : goal.After-read_prices-prices) → Priced c.args.book.now c.read_prices-prices.result
unfolding book_of
priced c = record { passes = c.in_ok-entry.ensures.found.1.passes; accepted = (told (goal.at.After-read_prices-prices c).In_ok-entry).accepted; same = sym c.read_prices-prices.ensures }

pub positions_of-position-requires : goal.positions_of-position-requires
positions_of-position-requires c = ((told (goal.at.positions_of-position-requires c).In_ok-entry).accepted, c.in_ok-entry.ensures.found.1.known, c.user_at-user.ensures)

pub flagged-requires : goal.flagged-requires
flagged-requires c = let f = c.in_ok-entry.ensures.found.1 in
    let g = goal.at.flagged-requires c in
    ((told g.In_ok-entry).limits_in, prices_range (priced g.After-read_prices-prices), blocked_most c.args.book.now f.passes f.known c.user_at-user.result c.user_at-user.ensures)

-- whether the user of the id is flagged in the book of the bytes
flag_is : (c : goal.After-flagged) → c.flagged.result ≡ flagged (as_limits c.in_ok-entry.entry.limits) (book_of c.args.book.now) (find (book_of c.args.book.now).users c.args.id)
flag_is c = let f = c.in_ok-entry.ensures.found.1 in
    let s = c.args.book.now in
    let limits = as_limits c.in_ok-entry.entry.limits in
    let v = get_or (users_of s) c.in_ok-entry.entry.place nobody in
    c.flagged.ensures v (read_blocked c.user_at-user.result v c.user_at-user.ensures)
    ∙ flag_at s f.passes f.known limits c.read_prices-prices.result (sym (priced (goal.at.After-flagged c).After-read_prices-prices).same) c.positions_of-position.result c.positions_of-position.ensures
    ∙ ap (flagged limits (book_of s)) (found_at f)

pub returns-then-flagged : goal.returns-then-flagged
unfolding a_warning
returns-then-flagged c = let f = c.in_ok-entry.ensures.found in
    let g = goal.at.returns-then-flagged c in
    let b = book_of c.args.book.now in
    let limits = as_limits c.in_ok-entry.entry.limits in
    rw f.0 (ap a_warning (warned-flagged limits b (find b.users c.args.id) (sym (flag_is g.After-flagged) ∙ c.if-flagged.true))
    ∙ warning_found 0 limits c.args.book.now c.args.id refl f.1 (sym (role g.After-user_at-user) ∙ c.if-user-ne0.false))

pub any_warns-requires : goal.any_warns-requires
any_warns-requires c = let g = goal.at.any_warns-requires c in
    record { priced = priced g.After-read_prices-prices; limits_in_range = (told g.In_ok-entry).limits_in }

pub returns : goal.returns
unfolding a_warning
returns c = let f = c.in_ok-entry.ensures.found in
    let g = goal.at.returns c in
    let b = book_of c.args.book.now in
    let limits = as_limits c.in_ok-entry.entry.limits in
    let v = find b.users c.args.id in
    let u = get_or (users_of c.args.book.now) c.in_ok-entry.entry.place nobody in
    let id : c.user_at-user.result.id ≡ v.party.id = read_id c.user_at-user.result u c.user_at-user.ensures ∙ ap (λ (w : User). w.party.id) (found_at f.1) in
    rw f.0 (ap a_warning (c.any_warns.ensures ∙ ap (λ (n : ℕ). any (buyer_is_warned limits b n) b.trades) id ∙ warned_buyer limits b v (sym (flag_is g.After-flagged) ∙ c.if-flagged.false))
    ∙ warning_found 0 limits c.args.book.now c.args.id refl f.1 (sym (role g.After-user_at-user) ∙ c.if-user-ne0.false))
