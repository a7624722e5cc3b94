-- The answer of the rules that a run, or the refusal in place of it, is. Assumes nothing.
use Rattle.std.specs.Prelude.{cond, Result, Ok, Err}
use Rattle.refusals.specs.Refusal.{number_of}
use Rattle.refusals.specs.declared.Refusal.{Refusal}
use Rattle.rules.specs.Calls.{Answer, only}
use Rattle.call_answers.specs.declared.Run.{Run}

-- reductions, MWh and worth, beside 20 where the log became full with one more reduction due; a field that a run does not have is 0, and every field where it is refused
abbrev pub answer_of : Result Run Refusal → Answer
answer_of (Ok run) =
    record {
      number = cond run.log_is_full 20 0;
      level = 0;
      added = 0;
      reductions = run.totals.reductions;
      mwh = run.totals.mwh.0;
      worth = run.totals.worth.0;
      target = 0;
      short = 0;
      over = 0;
    }
answer_of (Err refusal) = only (number_of refusal)
