-- `seek_shipper` is refused by the entry, refused for a clearing house, or has found a shipper. Assumes nothing.
use Rattle.base.specs.Basics.{◌≡◌, ◌∙◌, ap, sym, get_or}
use Rattle.refusals.proofs.Numbers.{handed_on, refused-nonzero}
use Rattle.rules.specs.Book.{User, find, nobody}
use Rattle.book_format.specs.Book.{book_of, users_of}
use Rattle.risk_members.proofs.Members.{read_role}
use Rattle.call_entry.proofs.Calls.{found_at, found_user}
use Rattle.call_told.proofs.Asked.{seek_found, seek_house, seek_refused}
use Rattle.call_told.proofs.seek_shipper.Goals as goal
use Rattle.call_told.proofs.seek_shipper.Goals.{After-user_at-user}

pub returns-in_err-entry-clause-asked : goal.returns-in_err-entry-clause-asked
returns-in_err-entry-clause-asked c = rw (handed_on c.from_residual.ensures.1) (seek_refused c.args.book.now c.args.id _ c.in_err-entry.ensures.asked (refused-nonzero c.in_err-entry.field-0.0))

pub user_at-user-requires : goal.user_at-user-requires
user_at-user-requires c = found_user c.in_ok-entry.ensures.found.1

-- the role that was read is that of the user of the id
role : (c : goal.After-user_at-user) → c.user_at-user.result.role ≡ (find (book_of c.args.book.now).users c.args.id).party.role
role c = read_role c.user_at-user.result (get_or (users_of c.args.book.now) c.in_ok-entry.entry.place nobody) c.user_at-user.ensures ∙ ap (λ (v : User). v.party.role) (found_at c.in_ok-entry.ensures.found.1)

pub returns-then-user-ne0-clause-asked : goal.returns-then-user-ne0-clause-asked
returns-then-user-ne0-clause-asked c = let f = c.in_ok-entry.ensures.found in
    rw f.0 (seek_house c.args.book.now c.args.id f.1 (λ h. c.if-user-ne0.true (role (goal.at.returns-then-user-ne0-clause-asked c).After-user_at-user ∙ h)))

pub returns-clause-asked : goal.returns-clause-asked
returns-clause-asked c = let f = c.in_ok-entry.ensures.found in
    rw f.0 (seek_found c.args.book.now c.args.id f.1 (sym (role (goal.at.returns-clause-asked c).After-user_at-user) ∙ c.if-user-ne0.false))
