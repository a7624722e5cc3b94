-- The answer of the rules that a reduction, or the refusal in place of it, is. Assumes nothing.
use Rattle.std.specs.Prelude.{Result, Ok, Err}
use Rattle.refusals.specs.Refusal.{number_of}
use Rattle.refusals.specs.declared.Refusal.{Refusal}
use Rattle.rules.specs.Calls.{Answer, only}
use Rattle.call_answers.specs.declared.Reduction.{Reduction}

-- MWh, worth, target, short and over; a field that a reduction does not have is 0, and every field where it is refused
abbrev pub answer_of : Result Reduction Refusal → Answer
answer_of (Ok reduction) =
    record {
      number = 0;
      level = 0;
      added = 0;
      reductions = 0;
      mwh = reduction.mwh.0;
      worth = reduction.worth.0;
      target = reduction.target.0;
      short = reduction.short.0;
      over = reduction.over.0;
    }
answer_of (Err refusal) = only (number_of refusal)
