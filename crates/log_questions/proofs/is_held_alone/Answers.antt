-- `is_held_alone` asks the bytes from the end of the held book to the entries. Assumes nothing.
use Rattle.base.specs.Basics.{ap, ◌∙◌, arith}
use Rattle.log_format.specs.Fits.{zeros}
use Rattle.log_format.specs.Log.{held_length}
use Rattle.log_questions.proofs.Form.{held_rest_lem}
use Rattle.log_questions.proofs.is_held_alone.Goals as goal

pub slice_bounds-is_zero-count : goal.slice_bounds-is_zero-count
unfolding held_length
slice_bounds-is_zero-count c = omega (arith, c.requires.held, c.get_u32-held.ensures)

pub slice_bounds-is_zero-start : goal.slice_bounds-is_zero-start
unfolding held_length
slice_bounds-is_zero-start c = omega (arith, c.requires.held, c.get_u32-held.ensures)

pub returns : goal.returns
unfolding held_length
returns c = c.is_zero.ensures ∙ ap zeros (held_rest_lem c.requires _ c.get_u32-held.ensures)
