-- The answer of a withdrawal, or of the refusal in place of it, as the rules' answer. Assumes nothing.
use Rattle.std.specs.Prelude.{Result, Ok, Err}
use Rattle.refusals.specs.Refusal.{number_of}
use Rattle.refusals.specs.declared.Refusal.{Refusal}
use Rattle.rules.specs.Calls.{Answer, only}
use Rattle.cut_worth.specs.declared.Tally.{Tally}

-- MWh and worth; a field that a withdrawal does not have is 0, and every field where it is refused
abbrev pub withdrawal_of : Result Tally Refusal → Answer
withdrawal_of (Ok tally) =
    record {
      number = 0;
      level = 0;
      added = 0;
      reductions = 0;
      mwh = tally.mwh.0;
      worth = tally.worth.0;
      target = 0;
      short = 0;
      over = 0;
    }
withdrawal_of (Err refusal) = only (number_of refusal)
