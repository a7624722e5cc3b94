-- Document 02, ask 9: "Over two books that pass the opening questions and agree on the header and, in book order, on what a party may see, its answers to the same call agree."
-- Assumes nothing.
use Rattle.std.specs.Prelude.{◌≡◌, ◌⊎◌, ◌++◌, ◌<◌, ◌^◌}
use Rattle.base.specs.Basics.{false, true, List, ℕ, suc}
use Rattle.rules.specs.Queries.{Query, afternoon_level_of, morning_level_of, only_number, shown_record, warning}
use Rattle.rules.specs.Questions.{Question}
use Rattle.book_columns.specs.Calls.{stored}
use Rattle.book_format.specs.Book.{book_of}
use Rattle.book_format.specs.Questions.{about_bytes, book_number}
use Rattle.book_tables.specs.Book.{blank_book}
use Rattle.book_tables.specs.declared.Book.{Book}
use Rattle.outputs.specs.Output.{refused, written}
use Rattle.requests.specs.Cancellation.{cancellation, not_cancelled}
use Rattle.requests.specs.Carried.{part_shown}
use Rattle.requests.specs.Request.{Request, Setting, enquiry, refused_given, request}
use Rattle.rights.specs.Party.{Matter, Party, is_shipper_in, may_do, operator, party_of, shipper_of}
use Rattle.rights.specs.Acting.{cancellation_by, enquiry_by, request_by}
use Rattle.rights.specs.Outputs.{stored_by, written_by}
use Rattle.rights.specs.Read.{ReadBy}
use Rattle.rights.specs.Seen.{Agree}
use Rattle.rights.specs.Trades.{Asking, id_of, told_by, told_number}

-- The answers of a shipper over two books, call by call, with any store. An answer is the number and every field or byte handed out. Where a part is lent, it is the bytes of
-- the part: that it lies in the lent book, and where (`HandedBy`, `TradeHanded`), is seen by who lent the book and holds all of it.
pub record AnswersAgree (party : ℕ) (s t : List ℕ) : Type 0 where
  -- whether it may do anything at all
  pub right : (m : Matter) → may_do (book_of s) (shipper_of party) m ≡ may_do (book_of t) (shipper_of party) m
  -- a level, a warning, a shown record: every field,
  pub query : (g : Setting) (q : Query) → enquiry_by (shipper_of party) g s q ≡ enquiry_by (shipper_of party) g t q
  -- and the bytes of the shown record
  pub shown : (g : Setting) (id : ℕ)
      → part_shown (enquiry_by (shipper_of party) g s (shown_record id)).number s id ≡ part_shown (enquiry_by (shipper_of party) g t (shown_record id)).number t id
  -- the flag, the count of the trades, the bytes of a trade
  pub told : (g : Setting) (a : Asking) → told_by (shipper_of party) g s a ≡ told_by (shipper_of party) g t a
  -- a whole cancellation is refused
  pub cancelled : (g : Setting) (id tries : ℕ) → cancellation_by (shipper_of party) g s id tries ≡ cancellation_by (shipper_of party) g t id tries
  -- a book read into its fields: the number, and every field
  pub read : {n m : ℕ} {b c : Book} → ReadBy (shipper_of party) s n b → ReadBy (shipper_of party) t m c → (n ≡ m) × (b ≡ c)
  -- a book written another way, its field-wise form or another version: the number, and every byte of the output, whatever is asked and written for the two books
  pub written : (ps qs : List Question) (xs ys out : List ℕ) → written_by (shipper_of party) s ps xs out ≡ written_by (shipper_of party) t qs ys out
  -- every call that changes a book, with any log: the answer, the numbers of a list's lines and the log
  pub answer : (r : Request) → (request_by (shipper_of party) r s).answer ≡ (request_by (shipper_of party) r t).answer
  pub numbers : (r : Request) → (request_by (shipper_of party) r s).numbers ≡ (request_by (shipper_of party) r t).numbers
  pub log : (r : Request) → (request_by (shipper_of party) r s).log ≡ (request_by (shipper_of party) r t).log

abbrev pub AgreementClaim : Type 0
AgreementClaim = (party : ℕ) (s t : List ℕ) → book_number s ≡ 0 → book_number t ≡ 0 → Agree party s t → AnswersAgree party s t

-- "All else is the operator's .. A forbidden act .. gives 26", whatever the book that passes its questions holds, and changes nothing
pub record Forbidden (party : ℕ) (s : List ℕ) : Type 0 where
  -- book and log as they were
  pub act : (r : Request) → request_by (shipper_of party) r s ≡ refused_given r.log s 26
  pub cancel : (g : Setting) (id tries : ℕ) → cancellation_by (shipper_of party) g s id tries ≡ not_cancelled 26
  -- no byte of an output is written
  pub write : (qs : List Question) (xs out : List ℕ) → written_by (shipper_of party) s qs xs out ≡ refused out 26
  -- and tells nothing: no field of a book that is read
  pub read : {n : ℕ} {b : Book} → ReadBy (shipper_of party) s n b → (n ≡ 26) × (b ≡ blank_book)

abbrev pub ForbiddenClaim : Type 0
ForbiddenClaim = (party : ℕ) (s : List ℕ) → book_number s ≡ 0 → Forbidden party s

-- the party may not have what is of an id: it has another, "a member's too", or "an id that is no shipper's in the book"
abbrev pub NotIts : ℕ → List ℕ → ℕ → Type 0
NotIts party s id = (party ≡ id → ⊥) ⊎ (is_shipper_in (book_of s) party ≡ false)

-- "a call for another id, a member's too, gives 26", and nothing else, whoever has that id and whether the book has it; "A buyer's warning .. is the operator's."
pub record Withheld (party : ℕ) (s : List ℕ) : Type 0 where
  pub morning : (g : Setting) (id : ℕ) → NotIts party s id → enquiry_by (shipper_of party) g s (morning_level_of id) ≡ only_number 26
  pub afternoon : (g : Setting) (id : ℕ) → NotIts party s id → enquiry_by (shipper_of party) g s (afternoon_level_of id) ≡ only_number 26
  pub shown : (g : Setting) (id : ℕ) → NotIts party s id → enquiry_by (shipper_of party) g s (shown_record id) ≡ only_number 26
  pub warned : (g : Setting) (id : ℕ) → enquiry_by (shipper_of party) g s (warning id) ≡ only_number 26
  pub told : (g : Setting) (a : Asking) → NotIts party s (id_of a) → told_by (shipper_of party) g s a ≡ told_number 26

abbrev pub WithheldClaim : Type 0
WithheldClaim = (party : ℕ) (s : List ℕ) → book_number s ≡ 0 → Withheld party s

-- "A shipper may have its own record, levels and flag, the count of the trades it may see and .. that trade's 20 bytes": what the operator is told of it
pub record Granted (party : ℕ) (s : List ℕ) : Type 0 where
  pub morning : (g : Setting) → enquiry_by (shipper_of party) g s (morning_level_of party) ≡ enquiry g s (morning_level_of party)
  pub afternoon : (g : Setting) → enquiry_by (shipper_of party) g s (afternoon_level_of party) ≡ enquiry g s (afternoon_level_of party)
  pub shown : (g : Setting) → enquiry_by (shipper_of party) g s (shown_record party) ≡ enquiry g s (shown_record party)
  pub told : (g : Setting) (a : Asking) → id_of a ≡ party → told_by (shipper_of party) g s a ≡ told_by operator g s a

abbrev pub GrantedClaim : Type 0
GrantedClaim = (party : ℕ) (s : List ℕ) → is_shipper_in (book_of s) party ≡ true → Granted party s

-- 26 is "asked directly after question 7": a book that fails a question gives its number, whoever asks
pub record BookFirst : Type 0 where
  pub act : (actor : Party) (r : Request) (s : List ℕ) (n : ℕ) → book_number s ≡ suc n → request_by actor r s ≡ refused_given r.log s (suc n)
  pub query : (actor : Party) (g : Setting) (s : List ℕ) (q : Query) (n : ℕ) → book_number s ≡ suc n → enquiry_by actor g s q ≡ only_number (suc n)
  pub told : (actor : Party) (g : Setting) (s : List ℕ) (a : Asking) (n : ℕ) → book_number s ≡ suc n → told_by actor g s a ≡ told_number (suc n)
  pub cancel : (actor : Party) (g : Setting) (s : List ℕ) (id tries n : ℕ) → book_number s ≡ suc n → cancellation_by actor g s id tries ≡ not_cancelled (suc n)
  pub write : (actor : Party) (s : List ℕ) (qs : List Question) (xs out : List ℕ) (n : ℕ) → book_number s ≡ suc n → written_by actor s qs xs out ≡ refused out (suc n)

-- "the operator, or a shipper with an id", by a number: 2^32 is the operator's and every other an id's. 0 and what is above 2^32, an argument that was left out or damaged, may
-- do nothing in a book that passes its questions
pub record PartyNumbers : Type 0 where
  pub of_operator : party_of (2 ^ 32) ≡ operator
  pub of_shipper : (n : ℕ) → (n ≡ 2 ^ 32 → ⊥) → party_of n ≡ shipper_of n
  pub of_nobody : (n : ℕ) (s : List ℕ) → book_number s ≡ 0 → (n ≡ 0) ⊎ (2 ^ 32 < n) → (m : Matter) → may_do (book_of s) (party_of n) m ≡ false

-- what is the operator's and returns 0 was asked by the operator, and gives what it gives without a party: an act, a whole cancellation, a book written another way
pub record AcceptedClaim : Type 0 where
  pub act : (actor : Party) (r : Request) (s : List ℕ) → (request_by actor r s).answer.number ≡ 0 → (actor ≡ operator) × (request_by actor r s ≡ request r s)
  pub cancel : (actor : Party) (g : Setting) (s : List ℕ) (id tries : ℕ) → (cancellation_by actor g s id tries).number ≡ 0
      → (actor ≡ operator) × (cancellation_by actor g s id tries ≡ cancellation g s id tries)
  pub write : (actor : Party) (s : List ℕ) (qs : List Question) (xs out : List ℕ) → (written_by actor s qs xs out).number ≡ 0
      → (actor ≡ operator) × (written_by actor s qs xs out ≡ written (about_bytes s ++ qs) xs out)

-- the operator's calls are those without a party: nothing that is said of them is lost
pub record OperatorClaim : Type 0 where
  pub request : (r : Request) (s : List ℕ) → request_by operator r s ≡ request r s
  pub query : (g : Setting) (s : List ℕ) (q : Query) → enquiry_by operator g s q ≡ enquiry g s q
  pub cancellation : (g : Setting) (s : List ℕ) (id tries : ℕ) → cancellation_by operator g s id tries ≡ cancellation g s id tries
  pub output : (s : List ℕ) (qs : List Question) (xs out : List ℕ) → written_by operator s qs xs out ≡ written (about_bytes s ++ qs) xs out
  pub form : (s out : List ℕ) → stored_by operator s out ≡ stored s out
