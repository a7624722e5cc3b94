-- `open` reads bytes that pass every question, which are of the right form. Assumes nothing.
use Rattle.base.specs.Basics.{sym}
use Rattle.book_format.proofs.Held.{accepted_of}
use Rattle.book_value.proofs.open.Goals as goal

pub read_book-requires : goal.read_book-requires
read_book-requires c = (accepted_of _ (λ i. (c.type_inv.s i).fits) (sym c.in_ok-check.ensures)).held.form
