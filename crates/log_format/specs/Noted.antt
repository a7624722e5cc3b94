-- Document 02, ask 6: what the calls do on a book with the entries of a log: "A reduction adds an entry, a run one for each of its own, a withdrawal drops the last, an
-- accepted posting, list or guarantee call empties it"; and a run that meets a full log. Entries stand newest first. Assumes nothing.
use Rattle.std.specs.Prelude.{◌∷◌, ◌-◌}
use Rattle.base.specs.Basics.{Bool, cond, Option, none, some, List, [], ℕ, zero, suc, ltb, length}
use Rattle.rules.specs.Book.{Book, User, find}
use Rattle.rules.specs.Calls.{posting, morning_call_of, afternoon_call_of, reduction, run, Answer, Call, Result, effect, next_reduced, reduced, run_for}
use Rattle.rules.specs.Levels.{Limits}
use Rattle.rules.specs.Questions.{Question, after}
use Rattle.rules.specs.Reduction.{cuts, target}
use Rattle.log_format.specs.Log.{count_of_entries, log_bytes, most_entries}
use Rattle.log_format.specs.Withdrawal.{returned, withdrawn}

-- how many entries a log has room for
unfoldable pub room : List ℕ → ℕ
room l = most_entries - count_of_entries l

-- what a call with a log gives on a book: its answer, the book and the entries afterwards
pub record Entered : Type 0 where
  pub answer : Answer
  pub book : Book
  pub entries : List (List ℕ)

-- ---- a reduction and a run

-- "A run that meets a full log while a reduction is due stops with 20 and its totals"; one after which none is due has its answer
unfoldable pub stopped : Option User → Answer → Answer
stopped none a = a
stopped (some u) a =
    record { number = 20; level = 0; added = 0; reductions = a.reductions; mwh = a.mwh; worth = a.worth; target = 0; short = 0; over = 0 }

module _ (limits : Limits) where
  -- the entry of a user's reduction: what each trade loses, in the order of the book
  unfoldable pub entry_of : Book → User → List ℕ
  entry_of b u = cuts b u (target limits b u)

  -- a run of at most n reductions that stops where one more is due; it "keeps its cuts"
  unfoldable pub run_within : ℕ → Book → Result Book
  run_within n b =
      let r = run_for limits n b in
      record { answer = stopped (next_reduced limits r.book r.book.users) r.answer; book = r.book }

  -- the entry of the user that is reduced next goes before the others, and the run goes on
  unfoldable pub noting : Book → Option User → (Book → List (List ℕ) → List (List ℕ)) → List (List ℕ) → List (List ℕ)
  noting b none more es = es
  noting b (some u) more es = more (reduced limits b u).book (entry_of b u ∷ es)

  -- "a run one for each of its own": the entries after a run of at most n reductions
  unfoldable pub noted : ℕ → Book → List (List ℕ) → List (List ℕ)
  noted zero b es = es
  noted (suc n) b es = noting b (next_reduced limits b b.users) (noted n) es

-- ---- every call

-- "an accepted posting, list or guarantee call empties it"
unfoldable pub emptying : Result Book → Entered
emptying r = record { answer = r.answer; book = r.book; entries = [] }

module _ (limits : Limits) where
  -- a call with a log of these entries that has room for n more
  unfoldable pub call_entered : ℕ → List (List ℕ) → Book → Call → Entered
  call_entered n es b (posting id area amount) = emptying (effect limits b (posting id area amount))
  call_entered n es b (morning_call_of id) = emptying (effect limits b (morning_call_of id))
  call_entered n es b (afternoon_call_of id) = emptying (effect limits b (afternoon_call_of id))
  call_entered n es b (reduction id) =
      let r = effect limits b (reduction id) in
      record { answer = r.answer; book = r.book; entries = entry_of limits b (find b.users id) ∷ es }
  call_entered n es b run = let r = run_within limits n b in record { answer = r.answer; book = r.book; entries = noted limits n b es }

-- a lent log, given or not, after such a call by its number: "an accepted posting, list or guarantee call empties it, a refused call leaves it"
unfoldable pub emptied_by : Bool → ℕ → List ℕ → List ℕ → List ℕ
emptied_by lent number t l = cond lent (after number (λ n. l) (log_bytes [] t)) l

-- the last entry, and those before it
unfoldable pub last_entry : List (List ℕ) → List ℕ
last_entry [] = []
last_entry (cs ∷ es) = cs

unfoldable pub before_last : List (List ℕ) → List (List ℕ)
before_last [] = []
before_last (cs ∷ es) = es

-- "a withdrawal drops the last", and its cuts are given back
unfoldable pub withdrawal_entered : List (List ℕ) → Book → Entered
withdrawal_entered es b =
    record { answer = returned b (last_entry es); book = withdrawn b (last_entry es); entries = before_last es }

-- ---- the questions asked last

-- 18: "A withdrawal with an empty log"
unfoldable pub has_entry : List (List ℕ) → Question
has_entry es = record { number = 18; holds = ltb 0 (length es) }

-- 20: "a reduction with a full log"
unfoldable pub has_room : ℕ → Question
has_room n = record { number = 20; holds = ltb 0 n }

-- of a call with a log that has room for n more entries; a run asks while it runs
unfoldable pub lastly : ℕ → Call → List Question
lastly n (posting id area amount) = []
lastly n (morning_call_of id) = []
lastly n (afternoon_call_of id) = []
lastly n (reduction id) = has_room n ∷ []
lastly n run = []
