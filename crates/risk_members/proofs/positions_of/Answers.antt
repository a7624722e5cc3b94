-- `positions_of`: by the version. Assumes nothing.
use Rattle.base.specs.Basics.{sym, ap, ◌∙◌, arith, get_or}
use Rattle.book_format.specs.Book.{users_of}
use Rattle.rules.specs.Areas.{managers_in}
use Rattle.rules.specs.Book.{nobody}
use Rattle.risk_members.proofs.Holdings.{positions_plain}
use Rattle.risk_members.proofs.Members.{read_id}
use Rattle.risk_members.proofs.positions_of.Goals as goal

pub positions_by-requires : goal.positions_by-requires
positions_by-requires c = (c.requires.0, sym (c.has_managers.ensures ∙ ap managers_in c.version.ensures) ∙ c.if-has_managers.true, c.requires.1, read_id c.args.user (get_or (users_of c.args.book.now) c.args.place nobody) c.requires.2)

pub returns-else-has_managers : goal.returns-else-has_managers
returns-else-has_managers c = positions_plain c.args.book.now c.requires.0 c.requires.1 (sym (c.has_managers.ensures ∙ ap managers_in c.version.ensures) ∙ c.if-has_managers.false) c.args.user c.requires.2

pub version-requires : goal.version-requires
version-requires c = omega (arith, c.requires.0.held.form.head)

pub returns-then-has_managers : goal.returns-then-has_managers
returns-then-has_managers c = c.positions_by.ensures
