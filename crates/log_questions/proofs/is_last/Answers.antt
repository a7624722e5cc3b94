-- `is_last` asks all bytes from the end of the last entry. Assumes nothing.
use Rattle.base.specs.Basics.{ap, ◌∙◌, arith}
use Rattle.log_format.specs.Fits.{zeros}
use Rattle.log_format.specs.Log.{entry_at, count_of_entries}
use Rattle.log_questions.proofs.Form.{entries_rest_lem}
use Rattle.log_questions.proofs.is_last.Goals as goal

pub entry_offset-at-requires : goal.entry_offset-at-requires
unfolding count_of_entries
entry_offset-at-requires c = omega (arith, c.requires.count, c.get_u32-count.ensures)

pub slice_bounds-is_zero-count : goal.slice_bounds-is_zero-count
unfolding count_of_entries
slice_bounds-is_zero-count c = omega (arith, c.requires.size, c.requires.count, c.get_u32-count.ensures, c.entry_offset-at.ensures.1)

pub slice_bounds-is_zero-start : goal.slice_bounds-is_zero-start
unfolding count_of_entries
slice_bounds-is_zero-start c = omega (arith, c.requires.size, c.requires.count, c.get_u32-count.ensures, c.entry_offset-at.ensures.1)

pub returns : goal.returns
unfolding count_of_entries
returns c = c.is_zero.ensures ∙ ap zeros (entries_rest_lem c.requires _ (c.entry_offset-at.ensures.0 ∙ ap entry_at c.get_u32-count.ensures))
