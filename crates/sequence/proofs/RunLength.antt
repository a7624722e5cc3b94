-- How long a run can be: a refused run reports none and leaves the bytes; every other, also one that a full log stops, has done some reductions of the rules' run, each of which
-- cuts at least one MWh, and no reduction leaves the book, whose bytes are those that it was read from. Assumes nothing.
use Rattle.base.specs.Basics.{◌≡◌, refl, sym, ap, ap₂, subst, ◌∙◌, true, not, Option, none, some, List, ℕ, zero, suc, ◌≤◌, arith, T}
use Rattle.fields.specs.Field.{AllBytes}
use Rattle.book_format.proofs.Formed.{book_passed}
use Rattle.book_format.proofs.Passed.{passed_of}
use Rattle.book_format.proofs.Round.{bytes_of_book_of}
use Rattle.book_format.specs.Book.{book_of, bytes_of, trades_of}
use Rattle.book_format.specs.Questions.{about_bytes, book_number}
use Rattle.book_format.specs.Steps.{in_bytes}
use Rattle.laws.proofs.Fuel.{reduced_less}
use Rattle.laws.proofs.Refusals.{second_zero}
use Rattle.laws.proofs.Run.{reduced_law, run_none}
use Rattle.laws.specs.Sound.{Sound}
use Rattle.log_format.proofs.Main.{number-zero, runs_within}
use Rattle.log_format.proofs.Parts.{logged_bytes}
use Rattle.log_format.proofs.Read.{fits_logged}
use Rattle.log_format.specs.Fits.{log_fits, log_number}
use Rattle.log_format.specs.Log.{entries_of, log_bytes}
use Rattle.log_format.specs.Noted.{call_entered, lastly, room, run_within, stopped}
use Rattle.requests.proofs.Emptied.{with_opening}
use Rattle.requests.proofs.Opened.{opening-zero}
use Rattle.requests.specs.Carried.{Carried}
use Rattle.requests.specs.Request.{call, act_by, act_in, act_of, act_with, as_bytes, entered_in, limits_on, logged_after, opening, opening_with, opening_with_in, outcome, refused_given, request, request_in, setting_of, step_in}
use Rattle.rules.specs.Book.{Book, User}
use Rattle.rules.specs.Calls.{Answer, about, call_after, cuttable, effect, next_reduced, answer_of_run, only, onward, reduced, result_in, run, run_for, unchanged}
use Rattle.rules.specs.Levels.{Limits}
use Rattle.rules.specs.Questions.{after, refusal}
use Rattle.sequence.proofs.Acts.{accepted_zero}
use Rattle.sequence.proofs.Entered.{log_fits_lem}
use Rattle.sequence.specs.Links.{accepted_number}
use Rattle.sequence.specs.RunLength.{RunLeavesLog, RunLength}

-- however many reductions it may do, it does at most as many as MWh can be cut
run_most : (limits : Limits) (n : ℕ) (b : Book) → Sound b → (run_for limits n b).answer.reductions ≤ cuttable b.trades
unfolding run_for onward only answer_of_run
run_most limits zero b s = omega arith
run_most limits (suc n) b s = go (next_reduced limits b b.users) refl (λ u. run_most limits n (reduced limits b u).book (reduced_law limits b u s).sound)
  where
    go : (o : Option User) → next_reduced limits b b.users ≡ o
        → ((u : User) → (run_for limits n (reduced limits b u).book).answer.reductions ≤ cuttable (reduced limits b u).book.trades)
        → (onward limits b o (run_for limits n)).answer.reductions ≤ cuttable b.trades
    go none e rest = omega arith
    go (some u) e rest = omega (arith, rest u, reduced_less limits b u s e)

-- what a run gave: some reductions of the rules' run on an accepted book, or a refusal
data RunGave (limits : Limits) (s : List ℕ) : Answer → List ℕ → Type 0 where
  ran : {a : Answer} {t : List ℕ} (n : ℕ) → refusal (about_bytes s) ≡ 0 → a.reductions ≡ (run_for limits n (book_of s)).answer.reductions
      → accepted_number (call run) a.number ≡ true → t ≡ bytes_of (run_for limits n (book_of s)).book → RunGave limits s a t
  stayed : {a : Answer} {t : List ℕ} (n : ℕ) → a ≡ only n → t ≡ s → RunGave limits s a t

module _ (store : Option (List ℕ)) (s : List ℕ) where
  abbrev limits : Limits
  limits = limits_on (setting_of store) (book_of s)

  abbrev most : ℕ
  most = cuttable (book_of s).trades

  without : (n : ℕ) → (n ≡ 0 → book_number s ≡ 0) → let x = call_after in_bytes n limits s run in RunGave limits s x.answer x.book
  unfolding call_after after unchanged result_in refusal about effect
  without zero h = ran most (book_passed s (h refl)) refl (accepted_zero (call run) (number-zero limits most (book_of s))) refl
  without (suc n) h = stayed (suc n) refl refl

  stops : (o : Option User) (a : Answer) → ((stopped o a).reductions ≡ a.reductions) × (a.number ≡ 0 → accepted_number (call run) (stopped o a).number ≡ true)
  unfolding stopped accepted_number
  stops none a = (refl, λ e. accepted_zero (call run) e)
  stops (some u) a = (refl, λ e. refl)

  within : (l : List ℕ) (n : ℕ) → (n ≡ 0 → book_number s ≡ 0) → let x = logged_after as_bytes n limits l s run in RunGave limits s x.answer x.book
  unfolding logged_after after refusal about lastly refused_given entered_in call_entered run_within
  within l zero h =
      let r = run_for limits (room l) (book_of s) in
      let q = stops (next_reduced limits r.book r.book.users) r.answer in
      ran (room l) (book_passed s (h refl)) q.0 (q.1 (number-zero limits (room l) (book_of s))) refl
  within l (suc n) h = stayed (suc n) refl refl

  gave : (log : Option (List ℕ)) → RunGave limits s (request (act_of store log (call run)) s).answer (request (act_of store log (call run)) s).book
  unfolding request_in act_by act_in step_in outcome act_with
  gave none = without (opening (book_number s) (setting_of store) s) (opening-zero (book_number s) (setting_of store) s)
  gave (some l) =
      within l (opening_with (book_number s) (setting_of store) (some l) s) (λ e. opening-zero (book_number s) (setting_of store) s (with_opening (book_number s) (setting_of store) (some l) s e))

module _ {limits : Limits} {s : List ℕ} {a : Answer} {t : List ℕ} where
  gave_most : RunGave limits s a t → a.reductions ≤ cuttable (trades_of s)
  unfolding only book_of
  gave_most (ran n p e k h) = subst (λ (i : ℕ). i ≤ cuttable (trades_of s)) (sym e) (run_most limits n (book_of s) (passed_of s p).sound)
  gave_most (stayed n e h) = subst (λ (x : Answer). x.reductions ≤ cuttable (trades_of s)) (sym e) (omega arith)

  gave_none : AllBytes s → RunGave limits s a t → a.reductions ≡ 0 → t ≡ s
  gave_none b (ran n p e k h) z = h ∙ ap bytes_of (run_none limits n (book_of s) (sym e ∙ z)) ∙ bytes_of_book_of s b (passed_of s p)
  gave_none b (stayed n e h) z = h

  gave_refused : RunGave limits s a t → T (not (accepted_number (call run) a.number)) → (a.reductions ≡ 0) × (t ≡ s)
  unfolding only
  gave_refused (ran n p e k h) z = absurd (rw k at z)
  gave_refused (stayed n e h) z = (ap (λ (x : Answer). x.reductions) e, h)

-- a run by its contract
gave_by : (store log : Option (List ℕ)) {s t : List ℕ} {a : Answer} → Carried (act_of store log (call run)) s a t → RunGave (limits_on (setting_of store) (book_of s)) s a t
gave_by store log {s} {t} {a} k =
    subst (λ (x : Answer). RunGave (limits_on (setting_of store) (book_of s)) s x t) (sym k.answer)
    (subst (λ (x : List ℕ). RunGave (limits_on (setting_of store) (book_of s)) s (request (act_of store log (call run)) s).answer x) (sym k.bytes) (gave store s log))

pub run_length : (store log : Option (List ℕ)) → RunLength store log
run_length store log =
    record {
      most = λ {s} {t} {a} k. gave_most (gave_by store log k);
      none = λ {s} {t} {a} b k z. gave_none b (gave_by store log k) z;
      refused = λ {s} {t} {a} k z. gave_refused (gave_by store log k) z;
    }

-- ---- the log

module _ (store : Option (List ℕ)) (l s : List ℕ) (c : AllBytes l) (b : AllBytes s) where
  -- a log that passes question 19 is the log of its entries and the book
  log_whole : refusal (about_bytes s) ≡ 0 → T (log_fits l s) → log_bytes (entries_of s l) s ≡ l
  log_whole p h = sym (logged_bytes (fits_logged c (passed_of s p).form.trades h))

  by_log : (n : ℕ) → (n ≡ 0 → (book_number s ≡ 0) × T (log_fits l s)) → let x = logged_after as_bytes n (limits store s) l s run in x.answer.reductions ≡ 0 → x.log ≡ some l
  unfolding logged_after after refusal about lastly refused_given entered_in call_entered
  by_log zero h z =
      let p = book_passed s (h refl).0 in
      let q = (runs_within (limits store s)).idle (room l) (book_of s) (entries_of s l) z in
      ap₂ (λ (es : List (List ℕ)) (n : Book). some (log_bytes es (bytes_of n))) q.0 q.1
      ∙ ap (λ (x : List ℕ). some (log_bytes (entries_of s l) x)) (bytes_of_book_of s b (passed_of s p))
      ∙ ap some (log_whole p (h refl).1)
  by_log (suc n) h z = refl

  leaves_log : (request (act_of store (some l) (call run)) s).answer.reductions ≡ 0 → (request (act_of store (some l) (call run)) s).log ≡ some l
  unfolding request_in act_by act_with opening_with_in
  leaves_log z =
      let g = setting_of store in
      by_log (opening_with (book_number s) g (some l) s)
      (λ e. (opening-zero (book_number s) g s (with_opening (book_number s) g (some l) s e), log_fits_lem l s (second_zero (opening (book_number s) g s) (log_number (some l) s) e))) z

pub run_leaves_log : (store : Option (List ℕ)) → RunLeavesLog store
run_leaves_log store = record { leaves = λ {l} {s} {t} {a} c b k z. leaves_log store l s c b (sym (ap (λ (x : Answer). x.reductions) k.answer) ∙ z) }
