-- The reply of the rules that a level, or the refusal in place of it, is. Assumes nothing.
use Rattle.std.specs.Prelude.{false, Result, Ok, Err}
use Rattle.std.proofs.Math.Option.{none}
use Rattle.refusals.specs.Refusal.{number_of}
use Rattle.refusals.specs.declared.Refusal.{Refusal}
use Rattle.rules.specs.Queries.{Reply}
use Rattle.units.specs.declared.Cents.{Cents}

-- number and level; no warning, and no record is shown
abbrev pub reply_of : Result Cents Refusal → Reply
reply_of (Ok level) = record { number = 0; level = level.0; warned = false; shown = none }
reply_of (Err refusal) = record { number = number_of refusal; level = 0; warned = false; shown = none }
