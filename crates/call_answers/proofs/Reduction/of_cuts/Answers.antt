-- `Reduction::of_cuts` has the tally, the amount asked for, and what each of the two exceeds the other by. Assumes nothing.
use Rattle.rules.specs.Calls.{answer_of_cuts}
use Rattle.call_answers.proofs.Reduction.of_cuts.Goals as goal

pub returns : goal.returns
unfolding answer_of_cuts
returns c = cc (c.less-2.ensures, c.less.ensures)
