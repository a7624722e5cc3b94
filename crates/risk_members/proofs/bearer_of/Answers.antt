-- `bearer_of`: without a manager the user itself, else the manager. Assumes nothing.
use Rattle.base.specs.Basics.{◌≡◌, ◌∙◌, arith, get_or}
use Rattle.book_format.proofs.Offsets.{user_managed}
use Rattle.book_format.proofs.Places.{record_lies}
use Rattle.book_format.specs.Book.{users_of, version_of}
use Rattle.risk_bearers.proofs.Table.{manager_is}
use Rattle.rules.specs.Book.{manager_in, nobody}
use Rattle.risk_members.proofs.Members.{bears_itself, bears_manager, id_is}
use Rattle.risk_members.proofs.bearer_of.Goals as goal
use Rattle.risk_members.proofs.bearer_of.Goals.{After-get_u32-id}

pub get_u32-id-requires : goal.get_u32-id-requires
get_u32-id-requires c = omega (arith, c.user_offset-at.ensures.0, record_lies c.requires.0, user_managed (version_of c.args.book.now) c.requires.1, c.requires.2)

-- the manager that is read
manager : (c : goal.After-get_u32-id) → c.get_u32-id.result ≡ manager_in (get_or (users_of c.args.book.now) c.args.place nobody).party.managers c.args.area
manager c = c.get_u32-id.ensures ∙ manager_is c.requires.0 c.requires.1 c.requires.2 c.user_offset-at.ensures.0

pub returns-then-id-eq0 : goal.returns-then-id-eq0
returns-then-id-eq0 c = let v = get_or (users_of c.args.book.now) c.args.place nobody in
    bears_itself v c.args.area (manager (goal.at.returns-then-id-eq0 c).After-get_u32-id) c.if-id-eq0.true (c.get_u32.ensures ∙ id_is c.requires.0 c.user_offset-at.ensures.0)

pub returns-else-id-eq0 : goal.returns-else-id-eq0
returns-else-id-eq0 c = bears_manager (get_or (users_of c.args.book.now) c.args.place nobody) c.args.area (manager (goal.at.returns-else-id-eq0 c).After-get_u32-id) c.if-id-eq0.false
