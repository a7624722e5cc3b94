-- `groups_valid`: without managers there are none that are not valid. Assumes nothing.
use Rattle.base.specs.Basics.{sym, ◌∙◌}
use Rattle.book_questions.proofs.Managers.{groups_in, groups_none, groups_some}
use Rattle.book_questions.proofs.groups_valid.Goals as goal

pub managers_valid-requires : goal.managers_valid-requires
managers_valid-requires c = groups_in _ _ _ (sym c.has_managers.ensures ∙ c.if-not-has_managers.false) c.requires

pub returns-else-not-has_managers : goal.returns-else-not-has_managers
returns-else-not-has_managers c = c.managers_valid.ensures ∙ groups_some _ _ _ (sym c.has_managers.ensures ∙ c.if-not-has_managers.false)

pub returns-then-not-has_managers : goal.returns-then-not-has_managers
returns-then-not-has_managers c = rw c.if-not-has_managers.true (groups_none _ _ _ (sym c.has_managers.ensures ∙ c.if-not-has_managers.true))
