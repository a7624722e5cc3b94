-- `is_formed` looks at the first 12 bytes only where the length is a log's. Assumes nothing.
use Rattle.base.specs.Basics.{ne_eqb, eq-eqb}
use Rattle.log_format.specs.Log.{count_of_entries, held_length, log_mark, log_mark_of, log_zero}
use Rattle.log_format.specs.Fits.{log_is_formed}
use Rattle.log_questions.proofs.is_formed.Goals as goal

pub returns-then-log-ne271668 : goal.returns-then-log-ne271668
unfolding log_is_formed
returns-then-log-ne271668 c = simp (ne_eqb _ _ c.if-log-ne271668.true)

pub returns : goal.returns
unfolding log_is_formed log_mark log_mark_of log_zero count_of_entries held_length
returns c = rw (
  c.get-mark.ensures.0,
  c.get_u8-zero.ensures,
  c.get_u32-count.ensures,
  c.get_u32-held.ensures,
  eq-eqb _ _ c.if-log-ne271668.false,
)
