-- The acts that the public calls are; their own names stand for functions beside them. Assumes nothing.
use Rattle.base.specs.Basics.{Bool, List, ℕ, Option, eqb}
use Rattle.requests.specs.Request.{call, opening_with, withdrawal, Act, Setting}
use Rattle.rights.specs.Acting.{entering_number}
use Rattle.rights.specs.Party.{Party, operators}
use Rattle.rules.specs.Calls.{Call}

abbrev pub called : Call → Act
called c = call c

abbrev pub withdrawing : Act
withdrawing = withdrawal

-- does no opening question refuse a call of the operator's that is no list: those of the book, 26, those of the store and 19 of a log that is given?
abbrev pub is_opened : Party → Setting → Option (List ℕ) → List ℕ → Bool
is_opened actor g log s = eqb (opening_with (entering_number actor operators s) g log s) 0
