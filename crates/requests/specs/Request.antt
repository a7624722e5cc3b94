-- Document 02, asks 1, 4 and 6: a request is a call, a list of postings or a withdrawal with the store and the log that it is given, or none. What it gives is stated once, on a
-- book in any form: the book itself, or its bytes. Assumes nothing.
use Rattle.std.specs.Prelude.{◌&&◌, ◌∷◌, ◌++◌}
use Rattle.base.specs.Basics.{Bool, Option, none, some, List, [], ℕ, eqb, leb, ℤ, length}
use Rattle.rules.specs.Book.{Book}
use Rattle.rules.specs.Calls.{Answer, Call, Form, Result, about, call_after, itself, only, posting}
use Rattle.rules.specs.Levels.{Limits}
use Rattle.rules.specs.Queries.{Query, Reply, reply_after}
use Rattle.rules.specs.Questions.{Question, about_book, after, first_of, refusal}
use Rattle.book_format.specs.Book.{book_of, bytes_of}
use Rattle.book_format.specs.Questions.{book_number}
use Rattle.book_format.specs.Steps.{in_bytes}
use Rattle.store.specs.Store.{about_store, limits_of, store_number}
use Rattle.log_format.specs.Log.{entries_of, log_bytes}
use Rattle.log_format.specs.Fits.{log_number}
use Rattle.log_format.specs.Noted.{Entered, call_entered, has_entry, lastly, room, withdrawal_entered}

-- ---- what is asked for

-- what a call is given beside its book: "A call takes the book and the store"
pub record Setting : Type 0 where
  pub store : Option (List ℕ)

-- "a list of id, area and signed MWh", by columns, and how many places there are beside it
pub record Lines : Type 0 where
  pub ids : List ℕ
  pub areas : List ℕ
  pub amounts : List ℤ
  pub places : ℕ

-- what is asked for: a call of document 01; "One call is to take them as a list"; "We want the last reduction withdrawn"
pub data Act : Type 0 where
  call : Call → Act
  postings : Lines → Act
  withdrawal : Act

-- an act in its setting, with "a lent log" or without one. A log is given to calls that change a book, and so is no part of the setting, which queries have too.
pub record Request : Type 0 where
  pub setting : Setting
  pub log : Option (List ℕ)
  pub act : Act

-- the setting of a call with a store, or none
abbrev pub setting_of : Option (List ℕ) → Setting
setting_of store = record { store = store }

-- the request of a call in a setting, and with a store, or none; without a log
abbrev pub call_in : Setting → Call → Request
call_in g c = record { setting = g; log = none; act = call c }

abbrev pub request_of : Option (List ℕ) → Call → Request
request_of store c = call_in (setting_of store) c

-- an act with a store and a log, or none of them
abbrev pub act_of : Option (List ℕ) → Option (List ℕ) → Act → Request
act_of store log a = record { setting = setting_of store; log = log; act = a }

-- a list of postings by its columns and the number of its places, and its request with a store, or none; without a log
abbrev pub lines_of : List ℕ → List ℕ → List ℤ → ℕ → Lines
lines_of ids areas amounts places = record { ids = ids; areas = areas; amounts = amounts; places = places }

abbrev pub list_of : Option (List ℕ) → List ℕ → List ℕ → List ℤ → ℕ → Request
list_of store ids areas amounts places = act_of store none (postings (lines_of ids areas amounts places))

-- ---- the setting on a book

-- the figures that the setting gives a call on a book
unfoldable pub limits_on : Setting → Book → Limits
limits_on g b = limits_of g.store b.header.date

-- the questions that the setting puts between those of the book and those of the call: 16 and 17, "asked after question 7"
unfoldable pub about_setting : Setting → Book → List Question
about_setting g b = about_store g.store b.header.date

-- ---- a list of postings

-- "A list above 512 lines, or one whose columns and places differ in count, is refused with 15"
unfoldable pub lines_fit : Lines → Bool
lines_fit v =
    leb (length v.ids) 512
    && (eqb (length v.areas) (length v.ids) && (eqb (length v.amounts) (length v.ids) && eqb v.places (length v.ids)))

-- 15, "asked after question 7", and 16 and 17 after it
unfoldable pub about_lines : Lines → List Question
about_lines v = record { number = 15; holds = lines_fit v } ∷ []

-- ---- the form of a book

-- What a request is made on: a book in its form, with the number of the questions about the book, and its bytes, which a log is compared with.
pub record Carrier (B : Type 0) : Type 0 where
  pub form : Form B
  pub number : B → ℕ
  pub bytes : B → List ℕ

-- a book itself, as the rules have it
abbrev pub as_book : Carrier Book
as_book = record { form = itself; number = λ b. refusal (about_book b); bytes = bytes_of }

-- a book in bytes
abbrev pub as_bytes : Carrier (List ℕ)
as_bytes = record { form = in_bytes; number = book_number; bytes = λ s. s }

-- ---- the opening questions

-- After the questions of the book, and 26 where a party is asked, whose number is n. Of a list 15, "asked after question 7",
unfoldable pub opening_lines : ℕ → Lines → ℕ
opening_lines n v = first_of n (refusal (about_lines v))

module _ {B : Type 0} (carrier : Carrier B) where
  -- then 16 and 17, "both asked after question 7 and 15",
  unfoldable pub opening_in : ℕ → Setting → B → ℕ
  opening_in n g x = first_of n (store_number g.store (carrier.form.book x).header.date)

  -- then 19: it "is asked after question 7 and 15 to 17"
  unfoldable pub opening_with_in : ℕ → Setting → Option (List ℕ) → B → ℕ
  opening_with_in n g log x = first_of (opening_in n g x) (log_number log (carrier.bytes x))

-- of a book in bytes
abbrev pub opening : ℕ → Setting → List ℕ → ℕ
opening n g s = opening_in as_bytes n g s

abbrev pub opening_with : ℕ → Setting → Option (List ℕ) → List ℕ → ℕ
opening_with n g log s = opening_with_in as_bytes n g log s

-- ---- what an act gives on a book in some form, after the questions of the book, and 26, whose number is n

-- its answer, "for each, in a place beside it, its single posting's number", the book afterwards in its form, and the log where one is given
pub record Outcome (B : Type 0) : Type 0 where
  pub answer : Answer
  pub numbers : List ℕ
  pub book : B
  pub log : Option (List ℕ)

-- "A refusal returns the number with every other field 0 and the book byte for byte the same"; the log, where one is given, stays too: "a refused call leaves it"
unfoldable pub refused_given : {B : Type 0} → Option (List ℕ) → B → ℕ → Outcome B
refused_given log x n = record { answer = only n; numbers = []; book = x; log = log }

-- a call without a log has no lines either
unfoldable pub outcome : {B : Type 0} → Result B → Outcome B
outcome r = record { answer = r.answer; numbers = []; book = r.book; log = none }

module _ {B : Type 0} (carrier : Carrier B) where
  -- ---- without a log

  -- a call in its setting
  unfoldable pub step_in : ℕ → Setting → B → Call → Result B
  step_in n g x c = call_after carrier.form (opening_in carrier n g x) (limits_on g (carrier.form.book x)) x c

  -- "Book and answers equal those of the postings made one after another", each a call of its own on the book that the last one left
  unfoldable pub lines_in : Setting → B → List ℕ → List ℕ → List ℤ → Outcome B
  lines_in g x [] areas amounts = record { answer = only 0; numbers = []; book = x; log = none }
  lines_in g x (id ∷ ids) [] amounts = record { answer = only 0; numbers = []; book = x; log = none }
  lines_in g x (id ∷ ids) (area ∷ areas) [] = record { answer = only 0; numbers = []; book = x; log = none }
  lines_in g x (id ∷ ids) (area ∷ areas) (z ∷ amounts) =
      let first = step_in (carrier.number x) g x (posting id area z) in
      let rest = lines_in g first.book ids areas amounts in
      record { answer = only 0; numbers = first.answer.number ∷ rest.numbers; book = rest.book; log = none }

  -- "A book that fails a question stops the call with that number before the first line." Without a log there is no entry to withdraw.
  unfoldable pub act_in : ℕ → Setting → B → Act → Outcome B
  act_in n g x (call c) = outcome (step_in n g x c)
  act_in n g x (postings v) = after (opening_in carrier (opening_lines n v) g x) (refused_given none x) (lines_in g x v.ids v.areas v.amounts)
  act_in n g x withdrawal = refused_given none x (first_of (opening_in carrier n g x) 18)

  -- ---- with a log

  -- what the rules give: the log afterwards holds "the book as the last call given the log left it"
  unfoldable pub entered_in : Entered → Outcome B
  entered_in e = record { answer = e.answer; numbers = []; book = carrier.form.put e.book; log = some (log_bytes e.entries (bytes_of e.book)) }

  -- an accepted list "empties it"
  unfoldable pub emptied_in : Outcome B → Outcome B
  emptied_in o = record { answer = o.answer; numbers = o.numbers; book = o.book; log = some (log_bytes [] (carrier.bytes o.book)) }

  -- a call with a log, after its opening questions by their number: 20 is asked last
  unfoldable pub logged_after : ℕ → Limits → List ℕ → B → Call → Outcome B
  logged_after number limits l x c =
      after number (refused_given (some l) x)
      (after (refusal (about limits (carrier.form.book x) c ++ lastly (room l) c)) (refused_given (some l) x)
      (entered_in (call_entered limits (room l) (entries_of (carrier.bytes x) l) (carrier.form.book x) c)))

  -- a withdrawal: 18 is asked last
  unfoldable pub withdrawal_after : ℕ → List ℕ → B → Outcome B
  withdrawal_after number l x =
      let entries = entries_of (carrier.bytes x) l in
      after number (refused_given (some l) x)
      (after (refusal (has_entry entries ∷ [])) (refused_given (some l) x) (entered_in (withdrawal_entered entries (carrier.form.book x))))

  unfoldable pub act_with : ℕ → Setting → List ℕ → B → Act → Outcome B
  act_with n g l x (call c) = logged_after (opening_with_in carrier n g (some l) x) (limits_on g (carrier.form.book x)) l x c
  act_with n g l x (postings v) =
      after (opening_with_in carrier (opening_lines n v) g (some l) x) (refused_given (some l) x) (emptied_in (lines_in g x v.ids v.areas v.amounts))
  act_with n g l x withdrawal = withdrawal_after (opening_with_in carrier n g (some l) x) l x

  -- ---- requests

  -- without a log as before it, so that calls without a log answer as they did
  unfoldable pub act_by : ℕ → Setting → Option (List ℕ) → B → Act → Outcome B
  act_by n g none x a = act_in n g x a
  act_by n g (some l) x a = act_with n g l x a

  unfoldable pub request_in : ℕ → Request → B → Outcome B
  request_in n r x = act_by n r.setting r.log x r.act

-- what the rules give for a request on a book
abbrev pub request_given : Request → Book → Outcome Book
request_given r b = request_in as_book (as_book.number b) r b

-- ---- requests and queries on a book in bytes

-- a request after the questions of the book, and 26 where a party is asked
abbrev pub request_after : ℕ → Request → List ℕ → Outcome (List ℕ)
request_after n r s = request_in as_bytes n r s

-- a request on a book in bytes
abbrev pub request : Request → List ℕ → Outcome (List ℕ)
request r s = request_after (book_number s) r s

-- a query in a setting, after the same questions
unfoldable pub enquiry_after : ℕ → Setting → List ℕ → Query → Reply
enquiry_after n g s q = reply_after (opening n g s) (limits_on g (book_of s)) (book_of s) q

abbrev pub enquiry : Setting → List ℕ → Query → Reply
enquiry g s q = enquiry_after (book_number s) g s q
