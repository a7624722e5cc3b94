-- Document 02, ask 9: a call that writes a book another way to a lent output, by an acting party. "All else is the operator's." Assumes nothing.
use Rattle.base.specs.Basics.{List, ℕ}
use Rattle.rules.specs.Questions.{Question}
use Rattle.outputs.specs.Output.{Output, written_after}
use Rattle.book_columns.specs.Calls.{about_room}
use Rattle.book_columns.specs.Form.{form_of}
use Rattle.rights.specs.Acting.{entering_number}
use Rattle.rights.specs.Party.{Party, operators}

-- 1 to 7 and 26, then the call's own questions
unfoldable pub written_by : Party → List ℕ → List Question → List ℕ → List ℕ → Output
written_by actor s questions bytes out = written_after (entering_number actor operators s) questions bytes out

-- a book's field-wise form (ask 13), and 30 "asked last"
unfoldable pub stored_by : Party → List ℕ → List ℕ → Output
stored_by actor s out = written_by actor s (about_room (form_of s) out) (form_of s) out
