-- A posting, a guarantee call and a list of postings with a lent log, given or not: from the inner call, which knows of no log, and the log that is emptied where it is accepted. Assumes nothing.
use Rattle.base.specs.Basics.{◌≡◌, ◌∙◌, ap, refl, subst, sym, Bool, true, false, Option, none, some, List, [], ◌++◌, append-nil, ℕ, suc, zero, arith}
use Rattle.base.specs.Basics.{ℤ, length}
use Rattle.laws.proofs.Refusals.{first_zero}
use Rattle.rules.specs.Calls.{Answer, Call, Result, about, call_after, effect, only, result_in, unchanged}
use Rattle.rules.specs.Levels.{Limits}
use Rattle.rules.specs.Questions.{Question, after, refusal}
use Rattle.book_format.specs.After.{CalledAfter}
use Rattle.book_format.specs.Book.{book_of, bytes_of}
use Rattle.book_format.specs.Questions.{book_number}
use Rattle.book_format.specs.Steps.{in_bytes}
use Rattle.store.specs.Store.{given}
use Rattle.log_format.proofs.Noted.{Empties}
use Rattle.log_format.specs.Fits.{log_number}
use Rattle.log_format.specs.Log.{entries_of, log_bytes}
use Rattle.log_format.specs.Noted.{Entered, call_entered, emptied_by, emptying, room}
use Rattle.requests.proofs.Lines.{lines_answer}
use Rattle.requests.proofs.Logged.{act_lent, lines_log, logged_call, logged_without, without_number}
use Rattle.requests.specs.Carried.{Carried}
use Rattle.requests.specs.Logged.{AdmittedWith, LoggedAfter, PostedAfter, lent_log, list_with}
use Rattle.requests.specs.Request.{call, Lines, Outcome, Setting, act_by, act_in, act_with, as_bytes, call_in, emptied_in, entered_in, limits_on, lines_in, lines_of, logged_after, opening, opening_lines, opening_with, opening_with_in, outcome, refused_given, request}
use Rattle.requests.specs.Request.{request_after, request_in, setting_of, step_in}

-- ---- calls that empty the log

-- what such a call gives without a log, with the log emptied
with_emptied : List ℕ → Result (List ℕ) → Outcome (List ℕ)
with_emptied l x = record { answer = x.answer; numbers = []; book = x.book; log = some (after x.answer.number (λ n. l) (log_bytes [] x.book)) }

module _ {c : Call} (e : Empties c) where
  own_emptied : (limits : Limits) (l s : List ℕ) (n : ℕ)
      → after n (refused_given (some l) s) (entered_in as_bytes (emptying (effect limits (book_of s) c))) ≡ with_emptied l (after n (unchanged s) (result_in in_bytes (effect limits (book_of s) c)))
  unfolding after entered_in emptying result_in refused_given unchanged with_emptied only
  own_emptied limits l s zero =
      let r = effect limits (book_of s) c in
      ap (λ (n : ℕ). record { answer = r.answer; numbers = []; book = bytes_of r.book; log = some (after n (λ i. l) (log_bytes [] (bytes_of r.book))) }) (sym (e.number limits (book_of s)))
  own_emptied limits l s (suc n) = refl

  emptied_after : (number : ℕ) (limits : Limits) (l s : List ℕ) → logged_after as_bytes number limits l s c ≡ with_emptied l (call_after in_bytes number limits s c)
  unfolding logged_after call_after after refused_given unchanged with_emptied only
  emptied_after (suc n) limits l s = refl
  emptied_after zero limits l s =
      ap (λ (qs : List Question). after (refusal (about limits (book_of s) c ++ qs)) (refused_given (some l) s) (entered_in as_bytes (call_entered limits (room l) (entries_of s l) (book_of s) c))) (e.last (room l))
      ∙ ap (λ (qs : List Question). after (refusal qs) (refused_given (some l) s) (entered_in as_bytes (call_entered limits (room l) (entries_of s l) (book_of s) c))) (append-nil (about limits (book_of s) c))
      ∙ ap (λ (x : Entered). after (refusal (about limits (book_of s) c)) (refused_given (some l) s) (entered_in as_bytes x)) (e.entered limits (room l) (entries_of s l) (book_of s))
      ∙ own_emptied limits l s (refusal (about limits (book_of s) c))

  pub logged_emptied : {n : ℕ} {g : Setting} {s : List ℕ} {number : ℕ} {limits : Limits} {a : Answer} {t l m : List ℕ} (lent : Bool) → AdmittedWith n g (given lent l) s number limits
      → CalledAfter number limits s c a t → m ≡ emptied_by lent a.number t l → LoggedAfter n (act_lent g (given lent l) (call c)) s a t l m
  unfolding given emptied_by with_emptied
  logged_emptied {n} {g} {s} {number} {limits} {a} {t} {l} {m} false d k h =
      subst (λ (x : List ℕ). LoggedAfter n (act_lent g none (call c)) s a t l x) (sym h) (logged_without d k)
  logged_emptied {n} {g} {s} {number} {limits} {a} {t} {l} {m} true d k h =
      let e = sym (emptied_after number limits l s) in
      let emptied = ap (λ (i : ℕ). after i (λ j. l) (log_bytes [] t)) (ap (λ (r : Answer). r.number) k.answer)
      ∙ ap (λ (x : List ℕ). after (call_after in_bytes number limits s c).answer.number (λ i. l) (log_bytes [] x)) k.bytes in
      logged_call d (record {
        answer = k.answer ∙ ap (λ (o : Outcome (List ℕ)). o.answer) e;
        bytes = k.bytes ∙ ap (λ (o : Outcome (List ℕ)). o.book) e;
        log = ap some (h ∙ emptied) ∙ ap (λ (o : Outcome (List ℕ)). o.log) e;
      })

-- ---- lists

-- an accepted list, with a lent log that is given or not
emptied_lent : Bool → Outcome (List ℕ) → Outcome (List ℕ)
emptied_lent true o = emptied_in as_bytes o
emptied_lent false o = o

module _ (n : ℕ) (store : Option (List ℕ)) (ids areas : List ℕ) (amounts : List ℤ) (places s l : List ℕ) where
  abbrev lines : Lines
  lines = lines_of ids areas amounts (length places)

  abbrev gives : Outcome (List ℕ)
  gives = lines_in as_bytes (setting_of store) s ids areas amounts

  list_lent : (lent : Bool) → request_after n (list_with store (given lent l) ids areas amounts (length places)) s
      ≡ after (opening_with (opening_lines n lines) (setting_of store) (given lent l) s) (refused_given (given lent l) s) (emptied_lent lent gives)
  unfolding given emptied_lent request_in act_by act_in act_with
  list_lent true = refl
  list_lent false = ap (λ (i : ℕ). after i (refused_given none s) gives) (sym (without_number (opening_lines n lines) (setting_of store) s))

  by_answer : (k : ℕ) (lent : Bool) → only k ≡ (after k (refused_given (given lent l) s) (emptied_lent lent gives)).answer
  unfolding after emptied_lent refused_given emptied_in
  by_answer zero true = sym (lines_answer (setting_of store) s ids areas amounts)
  by_answer zero false = sym (lines_answer (setting_of store) s ids areas amounts)
  by_answer (suc k) lent = refl

  by_bytes : (k : ℕ) (lent : Bool) → after k (λ i. s) gives.book ≡ (after k (refused_given (given lent l) s) (emptied_lent lent gives)).book
  unfolding after emptied_lent refused_given emptied_in
  by_bytes zero true = refl
  by_bytes zero false = refl
  by_bytes (suc k) lent = refl

  by_numbers : (k : ℕ) (lent : Bool) → after k (λ i. places) gives.numbers ≡ after k (λ i. places) (after k (refused_given (given lent l) s) (emptied_lent lent gives)).numbers
  unfolding after emptied_lent emptied_in
  by_numbers zero true = refl
  by_numbers zero false = refl
  by_numbers (suc k) lent = refl

  by_log : (k : ℕ) (lent : Bool) (t : List ℕ) → t ≡ after k (λ i. s) gives.book → emptied_by lent k t l ≡ lent_log (after k (refused_given (given lent l) s) (emptied_lent lent gives)).log l
  unfolding after given emptied_lent refused_given emptied_in emptied_by lent_log
  by_log zero true t e = ap (log_bytes []) e
  by_log zero false t e = sym (ap (λ (o : Option (List ℕ)). lent_log o l) (lines_log (setting_of store) s ids areas amounts))
  by_log (suc k) true t e = refl
  by_log (suc k) false t e = refl

  -- a public list, from the number of its opening questions, what the inner list leaves, and the log emptied where it is accepted
  pub posted_list : {number : ℕ} {t left m : List ℕ} (lent : Bool)
      → number ≡ opening_with (opening_lines n lines) (setting_of store) (given lent l) s
      → t ≡ after number (λ i. s) gives.book
      → left ≡ after number (λ i. places) gives.numbers
      → m ≡ emptied_by lent number t l
      → PostedAfter n store (given lent l) ids areas amounts places s number t left l m
  posted_list {number} {t} {left} {m} lent e b p k =
      let whole : request_after n (list_with store (given lent l) ids areas amounts (length places)) s ≡ after number (refused_given (given lent l) s) (emptied_lent lent gives)
      = list_lent lent ∙ ap (λ (i : ℕ). after i (refused_given (given lent l) s) (emptied_lent lent gives)) (sym e) in
      record {
        logged = record {
          carried = record {
            answer = by_answer number lent ∙ sym (ap (λ (o : Outcome (List ℕ)). o.answer) whole);
            bytes = b ∙ by_bytes number lent ∙ sym (ap (λ (o : Outcome (List ℕ)). o.book) whole);
          };
          log = k ∙ by_log number lent t b ∙ sym (ap (λ (o : Outcome (List ℕ)). lent_log o.log l) whole);
        };
        beside = p ∙ by_numbers number lent ∙ ap (λ (o : Outcome (List ℕ)). after number (λ i. places) o.numbers) (sym whole);
      }

-- ---- an accepted call that empties the log answers and leaves the book as without one

-- who passes the opening questions with a log passes those without it
pub with_opening : (n : ℕ) (g : Setting) (log : Option (List ℕ)) (s : List ℕ) → opening_with n g log s ≡ 0 → opening n g s ≡ 0
unfolding opening_with_in
with_opening n g log s h = first_zero (opening n g s) (log_number log s) h

module _ {c : Call} (e : Empties c) (g : Setting) (s : List ℕ) where
  abbrev asked : Option (List ℕ) → ℕ
  asked log = opening_with (book_number s) g log s

  -- the inner call after the opening questions
  emptied_step : (log : Option (List ℕ)) → let x = call_after in_bytes (asked log) (limits_on g (book_of s)) s c in
      ((request (act_lent g log (call c)) s).answer ≡ x.answer) × ((request (act_lent g log (call c)) s).book ≡ x.book)
  unfolding request_in act_by act_in act_with step_in outcome with_emptied
  emptied_step none =
      let k = ap (λ (n : ℕ). call_after in_bytes n (limits_on g (book_of s)) s c) (sym (without_number (book_number s) g s)) in
      (ap (λ (x : Result (List ℕ)). x.answer) k, ap (λ (x : Result (List ℕ)). x.book) k)
  emptied_step (some l) =
      let k = emptied_after e (asked (some l)) (limits_on g (book_of s)) l s in
      (ap (λ (o : Outcome (List ℕ)). o.answer) k, ap (λ (o : Outcome (List ℕ)). o.book) k)

  module _ {log : Option (List ℕ)} {a : Answer} {t : List ℕ} where
    -- an accepted one passed its opening questions
    pub accepted_with : Carried (act_lent g log (call c)) s a t → a.number ≡ 0 → asked log ≡ 0
    unfolding call_after after unchanged only
    accepted_with k h = go (asked log) refl
      where
        go : (n : ℕ) → asked log ≡ n → n ≡ 0
        go zero i = refl
        go (suc n) i =
            absurd (let x : ◌≡◌ {A = ℕ} 0 (suc n) = sym h ∙ ap (λ (r : Answer). r.number) (k.answer ∙ (emptied_step log).0 ∙ ap (λ (m : ℕ). (call_after in_bytes m (limits_on g (book_of s)) s c).answer) i) in omega arith)

    -- with its log and without it
    pub log_off : asked log ≡ 0 → Carried (act_lent g log (call c)) s a t → Carried (call_in g c) s a t
    log_off h k =
        let n : asked log ≡ asked none = h ∙ sym (without_number (book_number s) g s ∙ with_opening (book_number s) g log s h) in
        record {
          answer = k.answer ∙ (emptied_step log).0 ∙ ap (λ (m : ℕ). (call_after in_bytes m (limits_on g (book_of s)) s c).answer) n ∙ sym (emptied_step none).0;
          bytes = k.bytes ∙ (emptied_step log).1 ∙ ap (λ (m : ℕ). (call_after in_bytes m (limits_on g (book_of s)) s c).book) n ∙ sym (emptied_step none).1;
        }

    pub log_on : asked log ≡ 0 → Carried (call_in g c) s a t → Carried (act_lent g log (call c)) s a t
    log_on h k =
        let n : asked none ≡ asked log = without_number (book_number s) g s ∙ with_opening (book_number s) g log s h ∙ sym h in
        record {
          answer = k.answer ∙ (emptied_step none).0 ∙ ap (λ (m : ℕ). (call_after in_bytes m (limits_on g (book_of s)) s c).answer) n ∙ sym (emptied_step log).0;
          bytes = k.bytes ∙ (emptied_step none).1 ∙ ap (λ (m : ℕ). (call_after in_bytes m (limits_on g (book_of s)) s c).book) n ∙ sym (emptied_step log).1;
        }
