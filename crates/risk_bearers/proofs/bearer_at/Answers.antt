-- `bearer_at`: without a manager the user itself, else the manager's place. Assumes nothing.
use Rattle.base.specs.Basics.{◌≡◌, ap, ◌∙◌, List, ℕ, arith, get_or}
use Rattle.book_format.proofs.Offsets.{user_managed}
use Rattle.book_format.proofs.Places.{record_lies}
use Rattle.book_format.specs.Book.{users_of, version_of}
use Rattle.book_format.specs.Places.{UserIn}
use Rattle.book_parties.specs.Ids.{place_in}
use Rattle.rules.specs.Book.{manager_in, nobody}
use Rattle.risk_bearers.proofs.Table.{bearer_manager, bearer_self, manager_is}
use Rattle.risk_bearers.proofs.bearer_at.Goals as goal
use Rattle.risk_bearers.proofs.bearer_at.Goals.{After-get_u32-id, Start}

there : (s : goal.Start) → UserIn s.args.book.now s.args.i
there s = record { form = s.requires.0.held.form; inside = omega (arith, s.requires.3, s.requires.4) }

pub get_u32-id-requires : goal.get_u32-id-requires
get_u32-id-requires c = omega (arith, c.user_offset.ensures.0, record_lies (there (goal.at.get_u32-id-requires c).Start), user_managed (version_of c.args.book.now) c.requires.1, c.requires.5)

-- the manager that is read
manager : (c : goal.After-get_u32-id) → c.get_u32-id.result ≡ manager_in (get_or (users_of c.args.book.now) c.args.i nobody).party.managers c.args.area
manager c = c.get_u32-id.ensures ∙ manager_is (there (goal.at.After-get_u32-id c).Start) c.requires.1 c.requires.5 c.user_offset.ensures.0

pub overflow_cast-result : goal.overflow_cast-result
overflow_cast-result c = omega (arith, c.requires.0.held.form.users, c.requires.3, c.requires.4)

pub returns-then-id-eq0 : goal.returns-then-id-eq0
returns-then-id-eq0 c = bearer_self c.args.book.now c.requires.0 (omega (arith, c.requires.3, c.requires.4)) c.args.area (manager (goal.at.returns-then-id-eq0 c).After-get_u32-id) c.if-id-eq0.true

pub overflow_cast-result-2 : goal.overflow_cast-result-2
overflow_cast-result-2 c = omega (arith, c.place_of.ensures.within, c.requires.2.padded.few)

pub returns : goal.returns
returns c = bearer_manager c.args.book.now c.requires.0 (omega (arith, c.requires.3, c.requires.4)) c.args.area (manager (goal.at.returns c).After-get_u32-id) c.if-id-eq0.false
    (c.unwrap_or.ensures ∙ c.place_of.ensures.stands ∙ ap (λ (ids : List ℕ). place_in ids c.get_u32-id.result) c.requires.2.listed)

pub user_offset-requires : goal.user_offset-requires
user_offset-requires c = there (goal.at.user_offset-requires c).Start

pub place_of-requires : goal.place_of-requires
place_of-requires c = c.requires.2.padded
