-- The cancellation of document 02, ask 8, that a whole cancellation, or the refusal in place of it, is. Assumes nothing.
use Rattle.std.specs.Prelude.{Result, Ok, Err}
use Rattle.refusals.specs.Refusal.{number_of}
use Rattle.refusals.specs.declared.Refusal.{Refusal}
use Rattle.requests.specs.Cancellation as model
use Rattle.requests.specs.Cancellation.{not_cancelled}
use Rattle.call_answers.specs.declared.Cancellation.{Cancellation}

-- the same marks and amounts
abbrev pub cancellation_of : Result Cancellation Refusal → model.Cancellation
cancellation_of (Ok c) = record { number = 0; marks = c.marks; excess = c.excess.0; tries = c.tries; complete = c.complete }
cancellation_of (Err refusal) = not_cancelled (number_of refusal)
