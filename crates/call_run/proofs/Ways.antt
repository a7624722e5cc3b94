-- The ways out of the call: refused by an opening question, or run. Assumes nothing.
use mathlib.Core.List.{List}
use mathlib.Core.Path.{◌≡◌, refl, sym, ap, ◌∙◌}
use Prim.Native.Nat.{ℕ, zero, suc}
use Rattle.cut_worth.specs.Totals.{totals}
use Rattle.cut_worth.specs.declared.Totals.{Totals}
use Rattle.book_format.specs.After.{CalledAfter}
use Rattle.book_format.specs.Book.{book_of}
use Rattle.book_format.specs.Steps.{in_bytes}
use Rattle.rules.specs.Calls.{Answer, Result, about, call_after, effect, only, result_in, unchanged}
use Rattle.rules.specs.Levels.{Limits}
use Rattle.rules.specs.Questions.{after, refusal}
use Rattle.run_book.specs.Books.{RanIn}
use Rattle.run_state.specs.Running.{whole_run}
use Rattle.call_run.specs.Call.{run_call}

module _ (limits : Limits) (s : List ℕ) where
  -- refused
  pub run_refused : (n : ℕ) → (n ≡ 0 → ⊥) → {a : Answer} → a ≡ only n → CalledAfter n limits s run_call a s
  unfolding call_after after unchanged
  run_refused zero h same = absurd (h refl)
  run_refused (suc n) h same = record { answer = same; bytes = refl }

  -- a run asks no question of its own
  run_passed : {n : ℕ} → n ≡ 0 → call_after in_bytes n limits s run_call ≡ result_in in_bytes (whole_run limits (book_of s))
  unfolding call_after after about refusal effect
  run_passed h = rw h

  -- run
  pub run_called : {n : ℕ} → n ≡ 0 → {t : List ℕ} {r : Totals} → RanIn (whole_run limits (book_of s)) t r → {a : Answer} → a ≡ totals r → CalledAfter n limits s run_call a t
  unfolding result_in
  run_called asked ran e =
      let step = run_passed asked in
      record {
        answer = e ∙ ran.answer ∙ sym (ap (λ (x : Result (List ℕ)). x.answer) step);
        bytes = ran.held.bytes ∙ sym (ap (λ (x : Result (List ℕ)). x.book) step);
      }
