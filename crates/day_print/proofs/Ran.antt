-- A book that was run: where the run is accepted, so is the book that it leaves. Assumes nothing.
use mathlib.Core.Bool.{Bool, true, false, cond}
use mathlib.Core.List.{List}
use mathlib.Core.Path.{◌≡◌, refl, sym, ap, ◌∙◌}
use Prim.Native.Nat.{ℕ, zero, suc, ◌≤◌}
use lib.Dec.{leb}
use Rattle.base.specs.Basics.{leb→le}
use Rattle.base.specs.Lists.{all}
use Rattle.laws.proofs.Refusals.{refusal_is}
use native.Mathlib.Omega.{arith}
use Rattle.book_format.proofs.Passed.{passed}
use Rattle.book_format.proofs.Written.{written_number}
use Rattle.book_format.specs.After.{CalledAfter}
use Rattle.book_format.specs.Book.{book_of}
use Rattle.book_format.specs.Questions.{about_bytes, about_fields, about_form, book_number}
use Rattle.book_format.specs.Steps.{in_bytes}
use Rattle.laws.proofs.Run.{run_law}
use Rattle.rules.specs.Calls.{Answer, about, call_after, cuttable, effect, only, result_in, unchanged}
use Rattle.rules.specs.Levels.{Limits}
use Rattle.rules.specs.Questions.{after, refusal}
use Rattle.call_run.specs.Call.{run_call}

-- the numbers of a book's questions are at most 7
number_low : (s : List ℕ) → book_number s ≤ 7
unfolding book_number about_bytes about_form about_fields all
number_low s = leb→le (book_number s) 7 (refusal_is (λ (n : ℕ). leb n 7) (about_bytes s) tt tt)

module _ {limits : Limits} {s t : List ℕ} {a : Answer} (called : CalledAfter (book_number s) limits s run_call a t) where
  -- a book that is refused gets another number than 0
  refused_number : (n : ℕ) → book_number s ≡ suc n → a.number ≡ suc n
  unfolding call_after after unchanged only
  refused_number n e = ap (λ (x : Answer). x.number) (called.answer ∙ ap (λ (m : ℕ). (call_after in_bytes m limits s run_call).answer) e)

  -- a run of an accepted book asks nothing more, and what it writes is accepted
  left_number : book_number s ≡ 0 → book_number t ≡ 0
  unfolding call_after after about refusal effect result_in
  left_number e =
      ap book_number (called.bytes ∙ ap (λ (m : ℕ). (call_after in_bytes m limits s run_call).book) e)
      ∙ written_number (effect limits (book_of s) run_call).book (run_law limits (cuttable (book_of s).trades) (book_of s) (passed s e).sound).sound

  -- 20, which stands beside the totals where a log is full, is no number of a book's questions
  pub ran_accepted : (full : Bool) → a.number ≡ cond full 20 0 → book_number t ≡ 0
  ran_accepted full number = go (book_number s) refl
    where
      another : (b : Bool) (n : ℕ) → suc n ≤ 7 → suc n ≡ cond b 20 0 → ⊥
      another true n h e = omega arith
      another false n h e = omega arith

      go : (n : ℕ) → book_number s ≡ n → book_number t ≡ 0
      go zero e = left_number e
      go (suc n) e = absurd (another full n (omega (arith, number_low s, e)) (sym (refused_number n e) ∙ number))
