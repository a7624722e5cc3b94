-- Document 02, ask 13: a book stored field by field, and "The inverse gives the book back, and accepts only the form that its book yields." Assumes nothing.
use Rattle.std.specs.Prelude.{◌∷◌, ◌++◌}
use Rattle.base.specs.Basics.{List, [], ℕ, leb, length}
use Rattle.rules.specs.Questions.{Question}
use Rattle.book_format.specs.Questions.{about_bytes}
use Rattle.outputs.specs.Output.{Output, written, written_after}
use Rattle.book_columns.specs.Form.{book_from, form_of, yields}

-- "an output too short 30, asked last"
unfoldable pub about_room : List ℕ → List ℕ → List Question
about_room bytes out = record { number = 30; holds = leb (length bytes) (length out) } ∷ []

-- a book's form, written to an output
unfoldable pub stored : List ℕ → List ℕ → Output
stored s out = written (about_bytes s ++ about_room (form_of s) out) (form_of s) out

-- the same after its opening questions, by their number
unfoldable pub stored_after : ℕ → List ℕ → List ℕ → Output
stored_after number s out = written_after number (about_room (form_of s) out) (form_of s) out

-- "A form that yields no accepted book gives 29, and then an output too short 30"
unfoldable pub about_form : List ℕ → List ℕ → List Question
about_form f out = record { number = 29; holds = yields f } ∷ about_room (book_from f) out

-- the book of a form, written to an output
unfoldable pub restored : List ℕ → List ℕ → Output
restored f out = written (about_form f out) (book_from f) out
