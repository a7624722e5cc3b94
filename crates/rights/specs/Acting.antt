-- Document 02, ask 9: a request, a query and a whole cancellation by an acting party, on a book in bytes. Assumes nothing.
use Rattle.std.specs.Prelude.{◌≡◌, ◌+◌}
use Rattle.base.specs.Basics.{List, ℕ}
use Rattle.rules.specs.Calls.{Answer}
use Rattle.rules.specs.Queries.{Query, Reply, shown_record}
use Rattle.rules.specs.Questions.{first_of}
use Rattle.book_format.specs.Book.{book_of}
use Rattle.book_format.specs.Questions.{book_number}
use Rattle.requests.specs.Cancellation.{Cancellation, cancellation_in}
use Rattle.requests.specs.Carried.{part_at, part_shown}
use Rattle.requests.specs.Request.{Outcome, Request, Setting, enquiry_after, opening, request_after}
use Rattle.rights.specs.Party.{Matter, Party, matter_of, operators, right_number}

-- ---- the questions

-- the number of those of the book and of 26, "asked directly after question 7, before every later question"
unfoldable pub entering_number : Party → Matter → List ℕ → ℕ
entering_number actor m s = first_of (book_number s) (right_number (book_of s) actor m)

-- with those of the setting after it, 16 and 17
abbrev pub opening_number_by : Party → Matter → Setting → List ℕ → ℕ
opening_number_by actor m g s = opening (entering_number actor m s) g s

-- ---- calls

-- "All else is the operator's." Every act that changes a book: the request after 26
abbrev pub request_by : Party → Request → List ℕ → Outcome (List ℕ)
request_by actor r s = request_after (entering_number actor operators s) r s

-- what the contract of a public call says of answer and bytes; the log that is lent to calls is in Logged.antt
pub record CarriedBy (actor : Party) (r : Request) (s : List ℕ) (a : Answer) (t : List ℕ) : Type 0 where
  pub answer : a ≡ (request_by actor r s).answer
  pub bytes : t ≡ (request_by actor r s).book

-- ---- what changes no book

-- a query of document 01: "A shipper may have its own record, levels"
abbrev pub enquiry_by : Party → Setting → List ℕ → Query → Reply
enquiry_by actor g s q = enquiry_after (entering_number actor (matter_of q) s) g s q

-- a shown record: the number, the part, and that it is that part of the book
pub record HandedBy (actor : Party) (g : Setting) (s : List ℕ) (id number : ℕ) (part : List ℕ) (book place : ℕ × ℕ) : Type 0 where
  pub asked : number ≡ (enquiry_by actor g s (shown_record id)).number
  pub shows : part ≡ part_shown number s id
  pub block : place.0 ≡ book.0
  pub offset : place.1 ≡ book.1 + part_at number s id

-- "All else is the operator's": a whole cancellation
abbrev pub cancellation_by : Party → Setting → List ℕ → ℕ → ℕ → Cancellation
cancellation_by actor g s id tries = cancellation_in (entering_number actor operators s) g s id tries
