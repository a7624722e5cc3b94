-- `fill_positions`: by the version. Assumes nothing.
use Rattle.base.specs.Basics.{sym, ap, ◌∙◌, arith}
use Rattle.rules.specs.Areas.{managers_in}
use Rattle.run_positions.proofs.Borne.{positions_plain}
use Rattle.run_positions.proofs.fill_positions.Goals as goal

pub version-requires : goal.version-requires
version-requires c = omega (arith, c.requires.0.held.form.head)

pub fill_borne-requires : goal.fill_borne-requires
fill_borne-requires c = (c.requires.0, sym (c.has_managers.ensures ∙ ap managers_in c.version.ensures) ∙ c.if-has_managers.true, c.requires.1, c.requires.2)

pub returns-then-has_managers : goal.returns-then-has_managers
returns-then-has_managers c = c.fill_borne.ensures

pub fill_own-requires : goal.fill_own-requires
fill_own-requires c = (c.requires.0.held.form, c.requires.1, c.requires.2)

pub returns-else-has_managers : goal.returns-else-has_managers
returns-else-has_managers c = (positions_plain c.args.book.now c.requires.0 (sym (c.has_managers.ensures ∙ ap managers_in c.version.ensures) ∙ c.if-has_managers.false) c.fill_own.ensures.0, c.fill_own.ensures.1)
