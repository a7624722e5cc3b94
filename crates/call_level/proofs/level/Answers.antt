-- `level` is refused by the entry, refused for a clearing house, or gives the level of the found user. Assumes nothing.
use Rattle.std.proofs.Common.{◌≡◌, ◌∙◌, ap, sym, refl, get_or}
use Rattle.refusals.proofs.Numbers.{handed_on, refused-nonzero}
use Rattle.rules.specs.Book.{User, find, nobody}
use Rattle.rules.specs.Queries.{a_level, only_number}
use Rattle.units.specs.Limits.{as_limits}
use Rattle.book_format.specs.Book.{book_of, users_of}
use Rattle.call_entry.proofs.Calls.{found_at}
use Rattle.risk_members.proofs.Members.{read_role}
use Rattle.call_level.specs.Times.{level_of_user}
use Rattle.call_level.proofs.Ways.{level_refused, level_of_house, level_found}
use Rattle.call_level.proofs.level.Goals as goal
use Rattle.call_level.proofs.level.Goals.{After-user_at-user}

pub returns-in_err-entry : goal.returns-in_err-entry
unfolding only_number
returns-in_err-entry c = let a = c.args in
    rw (handed_on c.from_residual.ensures.1) (level_refused _ _ a.book.now a.id a.afternoon c.in_err-entry.ensures.asked (refused-nonzero c.in_err-entry.field-0.0))

-- the role that was read is that of the user of the id
role : (c : goal.After-user_at-user) → c.user_at-user.result.role ≡ (find (book_of c.args.book.now).users c.args.id).party.role
role c = read_role c.user_at-user.result (get_or (users_of c.args.book.now) c.in_ok-entry.entry.place nobody) c.user_at-user.ensures ∙ ap (λ (v : User). v.party.role) (found_at c.in_ok-entry.ensures.found.1)

pub returns-then-user-ne0 : goal.returns-then-user-ne0
unfolding only_number
returns-then-user-ne0 c = let a = c.args in
    let f = c.in_ok-entry.ensures.found in
    rw f.0 (level_of_house 0 _ a.book.now a.id a.afternoon refl f.1 (λ h. c.if-user-ne0.true (role (goal.at.returns-then-user-ne0 c).After-user_at-user ∙ h)))

pub returns : goal.returns
unfolding a_level
returns c = let a = c.args in
    let f = c.in_ok-entry.ensures.found in
    rw f.0 (ap a_level (c.level_of.ensures ∙ ap (level_of_user a.afternoon (as_limits c.in_ok-entry.entry.limits) (book_of a.book.now)) (found_at f.1))
    ∙ level_found 0 _ a.book.now a.id a.afternoon refl f.1 (sym (role (goal.at.returns c).After-user_at-user) ∙ c.if-user-ne0.false))
