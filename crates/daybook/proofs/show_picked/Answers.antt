-- `daybook::show_picked` shows the record of the picked book. Assumes nothing.
use Rattle.daybook.proofs.show_picked.Goals as goal

pub returns : goal.returns
returns c = rw (← c.pick-book.ensures.result_value, ← c.pick-book.ensures.ref_ptr_value) c.show.ensures
