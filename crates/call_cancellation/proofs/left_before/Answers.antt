-- `left_before`: by whether the trade is eligible. Assumes nothing.
use Rattle.call_cancellation.proofs.left_before.Goals as goal

pub returns-then-eligible : goal.returns-then-eligible
returns-then-eligible c = rw c.if-eligible.true

pub returns-else-eligible : goal.returns-else-eligible
returns-else-eligible c = rw c.if-eligible.false
