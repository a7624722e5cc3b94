-- Document 02, ask 7: "Converting up and back gives the first bytes. Going from 1 to 2 or 3 no level, call, warning, reduction or run without a log may answer otherwise."
-- Both hold of every version and every target to which no information is lost. Assumes nothing.
use Rattle.std.specs.Prelude.{◌≡◌, ◌<◌, ◌≤◌}
use Rattle.base.specs.Basics.{false, true, Option, none, List, ℕ, T, length}
use Rattle.rules.specs.Questions.{version_known}
use Rattle.rules.specs.Queries.{Query}
use Rattle.fields.specs.Field.{AllBytes}
use Rattle.book_format.specs.Book.{book_of, version_of}
use Rattle.book_format.specs.Questions.{book_number}
use Rattle.requests.specs.Request.{Act, Outcome, Setting, act_of, enquiry, request}
use Rattle.requests.specs.Cancellation.{cancellation}
use Rattle.outputs.specs.Output.{accepted, refused}
use Rattle.conversions.specs.Conversion.{conversion, converted, kept}
use Rattle.user_levels.specs.Levels.{all_levels}

-- an accepted book in bytes that can be written as a version
pub record Convertible (version : ℕ) (s : List ℕ) : Type 0 where
  pub bytes : AllBytes s
  pub accepted : book_number s ≡ 0
  pub known : T (version_known version)
  pub lossless : T (kept version (book_of s))

-- upward nothing is lost, nor on the way to the book's own version
abbrev pub NothingLost : Type 0
NothingLost = (s : List ℕ) → book_number s ≡ 0 → (version : ℕ) → T (version_known version) → version_of s ≤ version → T (kept version (book_of s))

-- what was converted is an accepted book of that version, nothing is lost on the way back, and there stand the first bytes
pub record Back (version : ℕ) (s : List ℕ) : Type 0 where
  pub version_of_converted : version_of (converted version s) ≡ version
  pub there : Convertible (version_of s) (converted version s)
  pub back : converted (version_of s) (converted version s) ≡ s
  -- by the calls, in any output with room for it
  pub given : (out : List ℕ) → length s ≤ length out → conversion (version_of s) (converted version s) out ≡ accepted s out

-- what is written to an output: the book as the version where nothing refuses it; else the number of the first question that does, whatever the later ones say
pub record Answers (version : ℕ) (s out : List ℕ) : Type 0 where
  pub gives : Convertible version s → length (converted version s) ≤ length out → conversion version s out ≡ accepted (converted version s) out
  pub unaccepted : (book_number s ≡ 0 → ⊥) → conversion version s out ≡ refused out (book_number s)
  pub unknown : book_number s ≡ 0 → version_known version ≡ false → conversion version s out ≡ refused out 23
  pub lost : book_number s ≡ 0 → version_known version ≡ true → kept version (book_of s) ≡ false → conversion version s out ≡ refused out 21
  pub narrow : Convertible version s → length out < length (converted version s) → conversion version s out ≡ refused out 22

-- what a request without a log gives on a book as a version: the same answer and the same numbers of lines, and the bytes after it as that version
pub record Alike (version : ℕ) (there here : Outcome (List ℕ)) : Type 0 where
  pub answer : there.answer ≡ here.answer
  pub numbers : there.numbers ≡ here.numbers
  pub bytes : there.book ≡ converted version here.book
  pub log : there.log ≡ here.log

pub record Conversions : Type 0 where
  pub lossless : NothingLost
  -- "A converter writes any version as any version", also as its own: a copy
  pub copy : (s : List ℕ) → AllBytes s → book_number s ≡ 0 → converted (version_of s) s ≡ s
  pub answers : (version : ℕ) (s out : List ℕ) → Answers version s out
  -- "Converting up and back gives the first bytes."
  pub round : (version : ℕ) (s : List ℕ) → Convertible version s → Back version s
  -- every call, every list of postings and every withdrawal without a log, with a store or without
  pub requests : (version : ℕ) (s : List ℕ) → Convertible version s → (store : Option (List ℕ)) (a : Act)
      → Alike version (request (act_of store none a) (converted version s)) (request (act_of store none a) s)
  -- every level, warning and shown record
  pub enquiries : (version : ℕ) (s : List ℕ) → Convertible version s → (g : Setting) (q : Query) → enquiry g (converted version s) q ≡ enquiry g s q
  -- the levels and the states of all users
  pub levels : (version : ℕ) (s : List ℕ) → Convertible version s → (g : Setting) → all_levels g (converted version s) ≡ all_levels g s
  -- every whole cancellation
  pub cancellations : (version : ℕ) (s : List ℕ) → Convertible version s → (g : Setting) (id tries : ℕ) → cancellation g (converted version s) id tries ≡ cancellation g s id tries
