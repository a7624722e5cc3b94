-- Document 02, ask 13: "The inverse gives the book back, and accepts only the form that its book yields." Assumes nothing.
use Rattle.std.specs.Prelude.{◌≡◌, ◌<◌, ◌≤◌}
use Rattle.base.specs.Basics.{true, false, List, ℕ, length}
use Rattle.fields.specs.Field.{AllBytes}
use Rattle.book_format.specs.Questions.{book_number}
use Rattle.outputs.specs.Output.{accepted, refused}
use Rattle.book_columns.specs.Form.{book_from, form_of, yields}
use Rattle.book_columns.specs.Calls.{restored, stored}

-- of the accepted books of every version
pub record FieldWise : Type 0 where
  -- a form has its book's length, it is accepted, and its book is the one that it was made of
  pub long : (s : List ℕ) → AllBytes s → book_number s ≡ 0 → length (form_of s) ≡ length s
  pub accepts : (s : List ℕ) → AllBytes s → book_number s ≡ 0 → yields (form_of s) ≡ true
  pub back : (s : List ℕ) → AllBytes s → book_number s ≡ 0 → book_from (form_of s) ≡ s
  -- bytes that are accepted are the form of an accepted book
  pub only : (f : List ℕ) → AllBytes f → yields f ≡ true → (book_number (book_from f) ≡ 0) × (form_of (book_from f) ≡ f)
  -- by the two calls: a book is stored in any output with room for it, and given back to any output with room for it
  pub stores : (s out : List ℕ) → AllBytes s → book_number s ≡ 0 → length s ≤ length out → stored s out ≡ accepted (form_of s) out
  pub gives : (s out : List ℕ) → AllBytes s → book_number s ≡ 0 → length s ≤ length out → restored (form_of s) out ≡ accepted s out
  -- bytes that are no form are refused by 29, whatever the output; then an output too short for the book by 30
  pub refuses : (f out : List ℕ) → yields f ≡ false → restored f out ≡ refused out 29
  pub narrow : (f out : List ℕ) → yields f ≡ true → length out < length f → restored f out ≡ refused out 30
