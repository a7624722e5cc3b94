-- The ways out of the calls with a log: refused by an opening question, or carried out and noted. Assumes nothing.
use Rattle.base.specs.Basics.{◌≡◌, refl, sym, ap, subst, ◌∙◌, Bool, true, false, cond, Option, none, some, List, ℕ, zero, suc, ◌-◌, ◌≤◌, T}
use Rattle.std.specs.Prelude.{Ok}
use Rattle.call_answers.specs.Run.{answer_of}
use Rattle.fields.specs.Field.{AllBytes}
use Rattle.book_format.specs.Book.{book_of, count_of_trades}
use Rattle.call_run.specs.Call.{run_call}
use Rattle.cut_worth.specs.Totals.{totals}
use Rattle.cut_worth.specs.declared.Totals.{Totals}
use Rattle.log_format.specs.Fits.{log_fits}
use Rattle.log_format.specs.Log.{entries_of, count_of_entries, log_bytes}
use Rattle.log_format.specs.Noted.{call_entered, lastly, noted, room, run_within, stopped}
use Rattle.log_entries.proofs.Entries.{log_sealed}
use Rattle.log_entries.proofs.Fitting.{fitting_count, fitting_trades}
use Rattle.log_entries.specs.Entries.{sealed}
use Rattle.requests.specs.Logged.{GivesLogged}
use Rattle.requests.specs.Request.{Outcome, as_bytes, entered_in, logged_after, refused_given}
use Rattle.rules.specs.Book.{User}
use Rattle.rules.specs.Calls.{Answer, Call, about, next_reduced, answer_of_run, only, run_for}
use Rattle.rules.specs.Levels.{Limits}
use Rattle.rules.specs.Questions.{after, refusal}
use Rattle.run_noted.specs.Noted.{NotedIn}
use Rattle.call_logged.specs.Given.{numbered}

-- ---- refused

module _ (limits : Limits) (s l : List ℕ) (c : Call) where
  pub logged_refused : (n : ℕ) → (n ≡ 0 → ⊥) → {a : Answer} → a ≡ only n → GivesLogged (logged_after as_bytes n limits l s c) a s l
  unfolding logged_after after refused_given
  logged_refused zero h e = absurd (h refl)
  logged_refused (suc n) h e = record { answer = e; bytes = refl; log = refl }

-- ---- a run

-- its answer: the totals, with 20 where the log became full
pub run_answer : (t : Totals) (full : Bool) → answer_of (Ok (record { totals = t; log_is_full = full })) ≡ numbered (cond full 20 0) (totals t)
unfolding numbered answer_of_run
run_answer t full = refl

-- with 20 where one more reduction is due
stopped_answer : (due : Bool) (o : Option User) (t : Totals) (a : Answer) (u : User) → a ≡ totals t → (due ≡ false → o ≡ none) → (due ≡ true → o ≡ some u) → numbered (cond due 20 0) (totals t) ≡ stopped o a
unfolding stopped numbered answer_of_run
stopped_answer true o t a u e f g = rw (g refl, e)
stopped_answer false o t a u e f g = rw (f refl, e)

module _ (limits : Limits) (s l : List ℕ) (b : AllBytes l) (few : count_of_trades s ≤ 256) (fits : T (log_fits l s)) where
  run_passed : {n : ℕ} → n ≡ 0 → logged_after as_bytes n limits l s run_call ≡ entered_in as_bytes (call_entered limits (room l) (entries_of s l) (book_of s) run_call)
  unfolding logged_after after about lastly refusal
  run_passed h = rw h

  pub run_logged : {n count : ℕ} → n ≡ 0 → count ≡ count_of_entries l → {l' m t : List ℕ} {r : Totals} {many : ℕ} {due : Bool}
      → NotedIn limits (book_of s) count l l' t r many due → m ≡ sealed many t l' → {a : Answer} → a ≡ numbered (cond due 20 0) (totals r)
      → GivesLogged (logged_after as_bytes n limits l s run_call) a t m
  unfolding entered_in call_entered run_within room
  run_logged h e {l'} {m} {t} {r} {many} {due} p₀ k {a} f =
      let p = subst (λ (i : ℕ). NotedIn limits (book_of s) i l l' t r many due) e p₀ in
      let end = run_for limits (256 - count_of_entries l) (book_of s) in
      let entries = p.entries (entries_of s l) (fitting_trades l s b few fits) (fitting_count l s b few fits) in
      let passed = sym (run_passed h) in
      record {
        answer = f ∙ stopped_answer due (next_reduced limits end.book end.book.users) r end.answer p.next (sym p.ran.answer) p.rest p.more ∙ ap (λ (o : Outcome (List ℕ)). o.answer) passed;
        bytes = p.ran.held.bytes ∙ ap (λ (o : Outcome (List ℕ)). o.book) passed;
        log = ap some (log_sealed t entries.0 entries.1 k ∙ ap (log_bytes (noted limits (256 - count_of_entries l) (book_of s) (entries_of s l))) p.ran.held.bytes) ∙ ap (λ (o : Outcome (List ℕ)). o.log) passed;
      }
