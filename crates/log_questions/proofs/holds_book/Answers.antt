-- `holds_book` compares the bytes only where the lengths are the same. Assumes nothing.
use Rattle.base.specs.Basics.{◌∙◌, arith, ne_eqb}
use Rattle.log_format.specs.Log.{held_length}
use Rattle.log_questions.proofs.Form.{held_apart, held_same}
use Rattle.log_questions.proofs.holds_book.Goals as goal

pub slice_bounds-same-end : goal.slice_bounds-same-end
unfolding held_length
slice_bounds-same-end c = omega (arith, c.requires.size, c.requires.held, c.get_u32-held.ensures)

pub returns-then-held-book : goal.returns-then-held-book
unfolding held_length
returns-then-held-book c = held_same c.args.log.now c.args.book.now _ c.get_u32-held.ensures c.if-held-book.true c.same.ensures

pub returns-else-held-book : goal.returns-else-held-book
unfolding held_length
returns-else-held-book c = ne_eqb _ _ c.if-held-book.false ∙ held_apart c.args.log.now c.args.book.now _ c.get_u32-held.ensures c.if-held-book.false
