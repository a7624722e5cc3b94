-- The reply of the rules that a warning, or the refusal in place of it, is. Assumes nothing.
use Rattle.std.specs.Prelude.{Bool, false, Result, Ok, Err}
use Rattle.std.proofs.Math.Option.{none}
use Rattle.refusals.specs.Refusal.{number_of}
use Rattle.refusals.specs.declared.Refusal.{Refusal}
use Rattle.rules.specs.Queries.{Reply}

-- number and warning; no level, and no record is shown
abbrev pub reply_of : Result Bool Refusal → Reply
reply_of (Ok warned) = record { number = 0; level = 0; warned = warned; shown = none }
reply_of (Err refusal) = record { number = number_of refusal; level = 0; warned = false; shown = none }
