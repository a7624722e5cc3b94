-- `holdings_of`: by the version. Assumes nothing.
use Rattle.base.specs.Basics.{sym, ap, ◌∙◌, arith, get_or}
use Rattle.book_format.specs.Book.{users_of}
use Rattle.rules.specs.Areas.{managers_in}
use Rattle.rules.specs.Book.{nobody}
use Rattle.risk_members.proofs.Holdings.{held_plain}
use Rattle.risk_members.proofs.Members.{read_id}
use Rattle.risk_members.proofs.holdings_of.Goals as goal

pub held_by-requires : goal.held_by-requires
held_by-requires c = (c.requires.0, sym (c.has_managers.ensures ∙ ap managers_in c.version.ensures) ∙ c.if-has_managers.true, c.requires.1, c.requires.2, read_id c.args.user (get_or (users_of c.args.book.now) c.args.place nobody) c.requires.3)

pub holdings_at-requires : goal.holdings_at-requires
holdings_at-requires c = (c.requires.1.low, omega (arith, c.requires.2, c.requires.0.held.form.users))

pub returns-else-has_managers : goal.returns-else-has_managers
returns-else-has_managers c = held_plain c.args.book.now c.requires.0 c.requires.2 (sym (c.has_managers.ensures ∙ ap managers_in c.version.ensures) ∙ c.if-has_managers.false) c.args.user c.requires.3 c.requires.1 c.holdings_at.ensures

pub version-requires : goal.version-requires
version-requires c = omega (arith, c.requires.0.held.form.head)

pub returns-then-has_managers : goal.returns-then-has_managers
returns-then-has_managers c = c.held_by.ensures
