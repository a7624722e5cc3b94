-- The answer of the rules that a guarantee call, or the refusal in place of it, is. Assumes nothing.
use Rattle.std.specs.Prelude.{Result, Ok, Err}
use Rattle.refusals.specs.Refusal.{number_of}
use Rattle.refusals.specs.declared.Refusal.{Refusal}
use Rattle.rules.specs.Calls.{Answer, only}
use Rattle.call_answers.specs.declared.GuaranteeCall.{GuaranteeCall}

-- level and what was added; a field that a guarantee call does not have is 0, and every field where it is refused
abbrev pub answer_of : Result GuaranteeCall Refusal → Answer
answer_of (Ok call) =
    record {
      number = 0;
      level = call.level.0;
      added = call.added.0;
      reductions = 0;
      mwh = 0;
      worth = 0;
      target = 0;
      short = 0;
      over = 0;
    }
answer_of (Err refusal) = only (number_of refusal)
