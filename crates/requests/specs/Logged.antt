-- The contracts of the public calls that a log is lent to, given or not, and of what asks their opening questions; calls with a log and withdrawals after those questions, by their number.
-- Assumes nothing.
use Rattle.std.specs.Prelude.{◌≡◌, ◌++◌}
use Rattle.base.specs.Basics.{Option, none, some, List, [], ℕ, ℤ, length}
use Rattle.rules.specs.Calls.{Answer, Call, about, only}
use Rattle.rules.specs.Levels.{Limits}
use Rattle.rules.specs.Questions.{after, refusal}
use Rattle.book_format.specs.Book.{book_of}
use Rattle.book_format.specs.Questions.{about_bytes, book_number}
use Rattle.log_format.specs.Fits.{about_log}
use Rattle.log_format.specs.Log.{entries_of}
use Rattle.requests.specs.Carried.{CarriedAfter}
use Rattle.requests.specs.Request.{call, postings, Act, Lines, Outcome, Request, Setting, about_lines, about_setting, act_in, act_of, as_bytes, call_in, limits_on, lines_of, logged_after, opening_lines, opening_with, refused_given, request, request_after}
use Rattle.requests.specs.Request.{withdrawal_after}

-- the opening questions with that of a log, asked after those of the book, and 26, whose number is n: their number, and the figures of the call where it is 0
pub record AdmittedWith (n : ℕ) (g : Setting) (log : Option (List ℕ)) (s : List ℕ) (number : ℕ) (limits : Limits) : Type 0 where
  pub asked : number ≡ opening_with n g log s
  pub taken : number ≡ 0 → limits ≡ limits_on g (book_of s)

-- ---- the inner calls

-- an answer, the bytes of the book and the log afterwards are those of an outcome
pub record GivesLogged (o : Outcome (List ℕ)) (a : Answer) (t m : List ℕ) : Type 0 where
  pub answer : a ≡ o.answer
  pub bytes : t ≡ o.book
  pub log : some m ≡ o.log

-- ---- the public calls

-- a lent log after a call: as the request leaves it where it was given, else as it was
unfoldable pub lent_log : Option (List ℕ) → List ℕ → List ℕ
lent_log none l = l
lent_log (some m) l = m

-- a call or a withdrawal after the questions of the book, and 26, whose number is n: bytes before, answer, bytes after; the lent log before and after
pub record LoggedAfter (n : ℕ) (r : Request) (s : List ℕ) (a : Answer) (t l m : List ℕ) : Type 0 where
  pub carried : CarriedAfter n r s a t
  pub log : m ≡ lent_log (request_after n r s).log l

abbrev pub Logged : Request → List ℕ → Answer → List ℕ → List ℕ → List ℕ → Type 0
Logged r s a t l m = LoggedAfter (book_number s) r s a t l m

-- the request of a list of postings with a store and a log, or none of them
abbrev pub list_with : Option (List ℕ) → Option (List ℕ) → List ℕ → List ℕ → List ℤ → ℕ → Request
list_with store log ids areas amounts places = act_of store log (postings (lines_of ids areas amounts places))

-- a list of postings, its places with it: "a refused call leaves those places unchanged"
pub record PostedAfter (n : ℕ) (store log : Option (List ℕ)) (ids areas : List ℕ) (amounts : List ℤ) (places s : List ℕ) (number : ℕ) (t left l m : List ℕ) : Type 0 where
  pub logged : LoggedAfter n (list_with store log ids areas amounts (length places)) s (only number) t l m
  pub beside : left ≡ after number (λ k. places) (request_after n (list_with store log ids areas amounts (length places)) s).numbers

abbrev pub Posted : Option (List ℕ) → Option (List ℕ) → List ℕ → List ℕ → List ℤ → List ℕ → List ℕ → ℕ → List ℕ → List ℕ → List ℕ → List ℕ → Type 0
Posted store log ids areas amounts places s number t left l m = PostedAfter (book_number s) store log ids areas amounts places s number t left l m

-- ---- the order of the questions

-- "Asked in this order; the first 'no' gives the number"
pub record AskedInOrder : Type 0 where
  -- 1 to 7, then 16 and 17, then 19
  pub opening_of_calls : (g : Setting) (log : Option (List ℕ)) (s : List ℕ) → opening_with (book_number s) g log s ≡ refusal ((about_bytes s ++ about_setting g (book_of s)) ++ about_log log s)
  -- of a list 15 "after question 7", and 16 and 17 after it
  pub opening_of_lists : (g : Setting) (log : Option (List ℕ)) (v : Lines) (s : List ℕ)
      → opening_with (opening_lines (book_number s) v) g log s ≡ refusal (((about_bytes s ++ about_lines v) ++ about_setting g (book_of s)) ++ about_log log s)
  -- 20 is asked last: a call that its own question refuses has that number,
  pub own_first : (limits : Limits) (l s : List ℕ) (c : Call) → (refusal (about limits (book_of s) c) ≡ 0 → ⊥)
      → logged_after as_bytes 0 limits l s c ≡ refused_given (some l) s (refusal (about limits (book_of s) c))
  -- and 18: a log without an entry has none to withdraw
  pub no_entry : (l s : List ℕ) → entries_of s l ≡ [] → withdrawal_after as_bytes 0 l s ≡ refused_given (some l) s 18

-- ---- what a log changes

-- A log is a record of reductions: a call that returns 0 with it answers and leaves the book as without it, and without it every act is what it was before there were logs.
pub record LogOnlyNotes : Type 0 where
  pub without : (g : Setting) (s : List ℕ) (a : Act) → request (record { setting = g; log = none; act = a }) s ≡ act_in as_bytes (book_number s) g s a
  pub answer : (g : Setting) (l s : List ℕ) (c : Call) → let r = request (record { setting = g; log = some l; act = call c }) s in
      r.answer.number ≡ 0 → r.answer ≡ (request (call_in g c) s).answer
  pub bytes : (g : Setting) (l s : List ℕ) (c : Call) → let r = request (record { setting = g; log = some l; act = call c }) s in
      r.answer.number ≡ 0 → r.book ≡ (request (call_in g c) s).book
