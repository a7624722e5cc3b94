-- `header_size`: 40 bytes with selling tariffs, else 32. Assumes nothing.
use Rattle.base.specs.Basics.{sym, ◌∙◌, arith}
use Rattle.book_format.proofs.Offsets.{header_plain, header_selling}
use Rattle.book_format.proofs.header_size.Goals as goal

pub returns-then-has_selling : goal.returns-then-has_selling
returns-then-has_selling c = record { value = sym (header_selling _ (sym c.has_selling.ensures ∙ c.if-has_selling.true)); lower_bound = omega arith }

pub returns-else-has_selling : goal.returns-else-has_selling
returns-else-has_selling c = record { value = sym (header_plain _ (sym c.has_selling.ensures ∙ c.if-has_selling.false)); lower_bound = omega arith }
