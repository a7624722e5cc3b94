-- What is told of flag and trades (document 02, ask 9), that a flag and a count, or the refusal in place of one, are. Assumes nothing.
use Rattle.std.specs.Prelude.{Bool, false, [], ℕ, Result, Ok, Err}
use Rattle.refusals.specs.Refusal.{number_of}
use Rattle.refusals.specs.declared.Refusal.{Refusal}
use Rattle.rights.specs.Trades.{Told}

abbrev pub flag_told : Result Bool Refusal → Told
flag_told (Ok flagged) = record { number = 0; flagged = flagged; count = 0; part = [] }
flag_told (Err refusal) = record { number = number_of refusal; flagged = false; count = 0; part = [] }

abbrev pub count_told : Result ℕ Refusal → Told
count_told (Ok count) = record { number = 0; flagged = false; count = count; part = [] }
count_told (Err refusal) = record { number = number_of refusal; flagged = false; count = 0; part = [] }
