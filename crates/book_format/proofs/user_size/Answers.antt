-- `user_size`: 68 bytes with managers, else 56. Assumes nothing.
use Rattle.base.specs.Basics.{sym, ◌∙◌, arith}
use Rattle.book_format.proofs.Offsets.{user_managed, user_plain}
use Rattle.book_format.proofs.user_size.Goals as goal

pub returns-then-has_managers : goal.returns-then-has_managers
returns-then-has_managers c = record { value = sym (user_managed _ (sym c.has_managers.ensures ∙ c.if-has_managers.true)); lower_bound = omega arith }

pub returns-else-has_managers : goal.returns-else-has_managers
returns-else-has_managers c = record { value = sym (user_plain _ (sym c.has_managers.ensures ∙ c.if-has_managers.false)); lower_bound = omega arith }
