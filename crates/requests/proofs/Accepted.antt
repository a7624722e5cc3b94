-- What is accepted with a log: a list leaves the bytes and has the numbers of its lines one after another; a call that returns 0 answers and leaves the book as without the log. Assumes nothing.
use Rattle.base.specs.Basics.{◌≡◌, ◌∙◌, ap, refl, sym, Option, none, some, List, ◌++◌, ℕ, suc, zero, arith, ℤ}
use Rattle.laws.proofs.Refusals.{append_yes}
use Rattle.laws.proofs.Sound.{accept}
use Rattle.laws.specs.Sound.{Sound}
use Rattle.rules.specs.Book.{Book}
use Rattle.rules.specs.Calls.{posting, morning_call_of, afternoon_call_of, reduction, run, Answer, Call, Result, about, call_after, effect, only, result_in}
use Rattle.rules.specs.Levels.{Limits}
use Rattle.rules.specs.Questions.{Question, after, refusal}
use Rattle.book_format.proofs.Passed.{passed}
use Rattle.book_format.specs.Book.{book_of, bytes_of}
use Rattle.book_format.specs.Questions.{book_number}
use Rattle.book_format.specs.Steps.{in_bytes}
use Rattle.log_format.proofs.Main.{runs_within}
use Rattle.log_format.specs.Log.{entries_of}
use Rattle.log_format.specs.Noted.{call_entered, emptying, lastly, room}
use Rattle.requests.proofs.Emptied.{with_opening}
use Rattle.requests.proofs.Logged.{act_lent}
use Rattle.requests.proofs.Opened.{opening-zero}
use Rattle.requests.specs.Logged.{LogOnlyNotes, list_with}
use Rattle.requests.specs.Request.{call, Outcome, Setting, act_by, act_in, act_with, as_bytes, call_in, emptied_in, entered_in, limits_on, lines_in, lines_of, logged_after, opening, opening_lines, opening_with, outcome, refused_given, request, request_in, setting_of}
use Rattle.requests.specs.Request.{step_in}

pub accepted_lines : (store log : Option (List ℕ)) (ids areas : List ℕ) (amounts : List ℤ) (n : ℕ) (s : List ℕ) → (request (list_with store log ids areas amounts n) s).answer ≡ only 0
    → ((request (list_with store log ids areas amounts n) s).book ≡ (lines_in as_bytes (setting_of store) s ids areas amounts).book)
    × ((request (list_with store log ids areas amounts n) s).numbers ≡ (lines_in as_bytes (setting_of store) s ids areas amounts).numbers)
unfolding request_in act_by act_in act_with after refused_given emptied_in only
accepted_lines store log ids areas amounts n s e = of_log log e
  where
    gives : Outcome (List ℕ)
    gives = lines_in as_bytes (setting_of store) s ids areas amounts

    by_number : (kept : Option (List ℕ)) (x : Outcome (List ℕ)) → x.book ≡ gives.book → x.numbers ≡ gives.numbers → (m : ℕ) → (after m (refused_given kept s) x).answer ≡ only 0
        → ((after m (refused_given kept s) x).book ≡ gives.book) × ((after m (refused_given kept s) x).numbers ≡ gives.numbers)
    by_number kept x b p zero k = (b, p)
    by_number kept x b p (suc m) k = absurd (let z : ◌≡◌ {A = ℕ} (suc m) 0 = ap (λ (a : Answer). a.number) k in omega arith)

    of_log : (log : Option (List ℕ)) → (request (list_with store log ids areas amounts n) s).answer ≡ only 0
        → ((request (list_with store log ids areas amounts n) s).book ≡ gives.book) × ((request (list_with store log ids areas amounts n) s).numbers ≡ gives.numbers)
    of_log none k = by_number none gives refl refl (opening (opening_lines (book_number s) (lines_of ids areas amounts n)) (setting_of store) s) k
    of_log (some l) k = by_number (some l) (emptied_in as_bytes gives) refl refl (opening_with (opening_lines (book_number s) (lines_of ids areas amounts n)) (setting_of store) (some l) s) k

-- ---- calls

-- what is entered is what the rules give; a run that returns 0 is the whole run
entered_effect : (limits : Limits) (n : ℕ) (es : List (List ℕ)) (b : Book) (c : Call) → Sound b → let e = call_entered limits n es b c in
    e.answer.number ≡ 0 → (e.answer ≡ (effect limits b c).answer) × (e.book ≡ (effect limits b c).book)
unfolding call_entered emptying
entered_effect limits n es b (posting id area amount) s h = (refl, refl)
entered_effect limits n es b (morning_call_of id) s h = (refl, refl)
entered_effect limits n es b (afternoon_call_of id) s h = (refl, refl)
entered_effect limits n es b (reduction id) s h = (refl, refl)
entered_effect limits n es b run s h =
    let e = (runs_within limits).whole n b (accept b s) h in
    (ap (λ (r : Result Book). r.answer) e, ap (λ (r : Result Book). r.book) e)

module _ (g : Setting) (l s : List ℕ) (c : Call) where
  abbrev limits : Limits
  limits = limits_on g (book_of s)

  own : List Question
  own = about limits (book_of s) c ++ lastly (room l) c

  -- where no question of the call refuses it
  step_none : refusal (about limits (book_of s) c) ≡ 0 → call_after in_bytes 0 limits s c ≡ result_in in_bytes (effect limits (book_of s) c)
  unfolding call_after after
  step_none e = rw e

  by_own : (n : ℕ) → refusal own ≡ n → book_number s ≡ 0 → let r = after n (refused_given (some l) s) (entered_in as_bytes (call_entered limits (room l) (entries_of s l) (book_of s) c)) in
      r.answer.number ≡ 0 → (r.answer ≡ (call_after in_bytes 0 limits s c).answer) × (r.book ≡ (call_after in_bytes 0 limits s c).book)
  unfolding own after refused_given entered_in only result_in
  by_own zero e p h =
      let q = entered_effect limits (room l) (entries_of s l) (book_of s) c (passed s p).sound h in
      let w = sym (step_none (append_yes (about limits (book_of s) c) (lastly (room l) c) e).0) in
      (q.0 ∙ ap (λ (x : Result (List ℕ)). x.answer) w, ap bytes_of q.1 ∙ ap (λ (x : Result (List ℕ)). x.book) w)
  by_own (suc n) e p h = absurd (omega arith)

  -- the call after its opening questions
  same_after : (n : ℕ) → (n ≡ 0 → book_number s ≡ 0) → let r = logged_after as_bytes n limits l s c in
      r.answer.number ≡ 0 → (r.answer ≡ (call_after in_bytes n limits s c).answer) × (r.book ≡ (call_after in_bytes n limits s c).book)
  unfolding logged_after after refused_given only own
  same_after zero p h = by_own (refusal own) refl (p refl) h
  same_after (suc n) p h = absurd (omega arith)

  -- by the number of the opening questions, with the log and without it
  same_by : (n : ℕ) → opening_with (book_number s) g (some l) s ≡ n → let r = logged_after as_bytes n limits l s c in let w = call_after in_bytes (opening (book_number s) g s) limits s c in
      r.answer.number ≡ 0 → (r.answer ≡ w.answer) × (r.book ≡ w.book)
  unfolding logged_after after refused_given only
  same_by zero e h =
      let o = with_opening (book_number s) g (some l) s e in
      let q = same_after 0 (λ z. opening-zero (book_number s) g s o) h in
      let w = ap (λ (m : ℕ). call_after in_bytes m limits s c) (sym o) in
      (q.0 ∙ ap (λ (x : Result (List ℕ)). x.answer) w, q.1 ∙ ap (λ (x : Result (List ℕ)). x.book) w)
  same_by (suc n) e h = absurd (omega arith)

  same : let r = request (act_lent g (some l) (call c)) s in r.answer.number ≡ 0 → (r.answer ≡ (request (call_in g c) s).answer) × (r.book ≡ (request (call_in g c) s).book)
  unfolding request_in act_by act_in act_with step_in outcome
  same h = same_by (opening_with (book_number s) g (some l) s) refl h

pub log_only_notes : LogOnlyNotes
unfolding request_in act_by
log_only_notes = record { without = λ g s a. refl; answer = λ g l s c h. (same g l s c h).0; bytes = λ g l s c h. (same g l s c h).1 }
