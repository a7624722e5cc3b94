-- The public calls with a lent log, given or not, from the inner calls. Assumes nothing.
use Rattle.std.specs.Prelude.{Ok, Err, IfOk, MatchResult, Result, is_ok}
use Rattle.base.specs.Basics.{◌≡◌, refl, sym, ap, subst, ◌∙◌, eqb, ne_eqb, false≢true, Bool, true, false, List, ℕ, zero, suc, arith, T, length}
use Rattle.book_format.proofs.Passed.{passed}
use Rattle.book_format.specs.After.{CalledAfter}
use Rattle.book_format.specs.Questions.{book_number}
use Rattle.call_admission.proofs.Log.{admitted_with}
use Rattle.call_admission.specs.Log.{LogAsked}
use Rattle.call_answers.specs.Call.{answer_of}
use Rattle.call_answers.specs.declared.GuaranteeCall.{GuaranteeCall}
use Rattle.call_guarantee.specs.Times.{call_of}
use Rattle.call_reduction.specs.Call.{reduction_of}
use Rattle.call_reduction.specs.Log.{ReducedWith}
use Rattle.log_format.proofs.Noted.{Empties, afternoon_empties, morning_empties}
use Rattle.log_format.proofs.Read.{fits_facts}
use Rattle.log_format.specs.Fits.{log_fits}
use Rattle.log_lent.specs.Lent.{Emptiable}
use Rattle.refusals.proofs.Numbers.{refused-nonzero}
use Rattle.refusals.specs.Refusal.{number_in, number_of}
use Rattle.refusals.specs.declared.Refusal.{Refusal}
use Rattle.requests.specs.Carried.{Admitted}
use Rattle.requests.proofs.Logged.{act_lent, logged_call, logged_without}
use Rattle.requests.specs.Logged.{AdmittedWith, GivesLogged, LoggedAfter}
use Rattle.requests.specs.Request.{call, opening_with, Setting, as_bytes, logged_after}
use Rattle.rules.specs.Calls.{Answer, Call, call_after, only, unchanged}
use Rattle.rules.specs.Levels.{Limits}
use Rattle.rules.specs.Questions.{after}
use Rattle.store.specs.Asked.{figures_in}
use Rattle.store.specs.Store.{given}
use Rattle.units.specs.declared.Limits as code

-- ---- the log of an accepted call

-- a call that returns 0 passed its opening questions
pub accepted : (n : ℕ) {limits : Limits} {s t : List ℕ} {c : Call} {a : Answer} → CalledAfter n limits s c a t → a.number ≡ 0 → n ≡ 0
unfolding call_after after unchanged only
accepted zero k z = refl
accepted (suc n) k z = sym (ap (λ (x : Answer). x.number) k.answer) ∙ z

-- so that the log can be emptied
pub emptiable : {opened asked : ℕ} {lent : Bool} {s l t : List ℕ} → LogAsked opened lent l s asked → (asked ≡ 0 → book_number s ≡ 0) → asked ≡ 0 → length t ≡ length s → lent ≡ true → Emptiable l t
emptiable {s = s} {l = l} k b z same e =
    record {
      before = s;
      fits = k.fits z e;
      few = (passed s (b z)).form.trades;
      room = omega (arith, (fits_facts l s (k.fits z e)).room, same);
    }

pub call_empties : (afternoon : Bool) (id : ℕ) → Empties (call_of afternoon id)
call_empties true id = afternoon_empties id
call_empties false id = morning_empties id

-- a guarantee call and its outcome alone have one number
pub outcome_number : (P : GuaranteeCall → Type 0) (made : Result GuaranteeCall Refusal) (outcome : Result Unit Refusal) → is_ok outcome ≡ is_ok made → MatchResult made P (λ e. outcome ≡ Err e)
    → number_in outcome ≡ (answer_of made).number
unfolding only
outcome_number P (Ok made) (Ok done) v h = refl
outcome_number P (Ok made) (Err e) v h = absurd (false≢true v)
outcome_number P (Err e) outcome v h = rw h refl

-- ---- after the question of the log

-- the figures that it hands on are those of the opening questions
pub admitted_log : {n : ℕ} {g : Setting} {s l : List ℕ} (lent : Bool) (opened asked : Result code.Limits Refusal) → Admitted n g s (number_in opened) (figures_in opened)
    → LogAsked (number_in opened) lent l s (number_in asked) → IfOk asked (λ limits. opened ≡ Ok limits) → AdmittedWith n g (given lent l) s (number_in asked) (figures_in asked)
admitted_log lent opened (Ok limits) a k e = rw e at (admitted_with lent a k)
admitted_log lent opened (Err refusal) a k e = record { asked = (admitted_with lent a k).asked; taken = λ z. absurd (refused-nonzero refusal z) }

-- a call that it hands on passed every opening question
pub opened_by : {n : ℕ} {g : Setting} {s : List ℕ} (lent : Bool) (l : List ℕ) (asked : Result code.Limits Refusal) → AdmittedWith n g (given lent l) s (number_in asked) (figures_in asked)
    → is_ok asked ≡ eqb (opening_with n g (given lent l) s) 0
opened_by lent l (Ok limits) d = ap (λ (number : ℕ). eqb number 0) d.asked
opened_by lent l (Err refusal) d = sym (ne_eqb (number_of refusal) 0 (refused-nonzero refusal)) ∙ ap (λ (number : ℕ). eqb number 0) d.asked

-- a log that it lets pass fits the book
pub log_fits_in : {opened : ℕ} {lent : Bool} {l s : List ℕ} (asked : Result code.Limits Refusal) → LogAsked opened lent l s (number_in asked) → IfOk asked (λ limits. lent ≡ true → T (log_fits l s))
log_fits_in (Ok limits) k = k.fits refl
log_fits_in (Err refusal) k = tt

-- a log that is given for sure
pub log_fits_lent : {opened : ℕ} (lent : Bool) (l s : List ℕ) (asked : Result code.Limits Refusal) → lent ≡ true → LogAsked opened lent l s (number_in asked) → IfOk asked (λ limits. T (log_fits l s))
log_fits_lent lent l s (Ok limits) e k = k.fits refl e
log_fits_lent lent l s (Err refusal) e k = tt

-- ---- with a log, or without

module _ {n : ℕ} {g : Setting} {l s : List ℕ} {number : ℕ} {limits : Limits} where
  pub called_without : (lent : Bool) {c : Call} {a : Answer} {t : List ℕ} → lent ≡ false → AdmittedWith n g (given lent l) s number limits → CalledAfter number limits s c a t
      → LoggedAfter n (act_lent g (given lent l) (call c)) s a t l l
  unfolding given
  called_without true e d k = absurd (subst T e tt)
  called_without false e d k = logged_without d k

  pub called_with : (lent : Bool) {c : Call} {a : Answer} {t m : List ℕ} → lent ≡ true → AdmittedWith n g (given lent l) s number limits → GivesLogged (logged_after as_bytes number limits l s c) a t m
      → LoggedAfter n (act_lent g (given lent l) (call c)) s a t l m
  unfolding given
  called_with true e d k = logged_call d k
  called_with false e d k = absurd (subst T (sym e) tt)

  pub reduction_logged : {id : ℕ} {a : Answer} {t m : List ℕ} (lent : Bool) → AdmittedWith n g (given lent l) s number limits → ReducedWith lent number limits l s id a t m
      → LoggedAfter n (act_lent g (given lent l) (call (reduction_of id))) s a t l m
  unfolding given
  reduction_logged {id} {a} {t} {m} false d k =
      subst (λ (x : List ℕ). LoggedAfter n (act_lent g (given false l) (call (reduction_of id))) s a t l x) (sym (k.stays refl)) (logged_without d (k.without refl))
  reduction_logged true d k = logged_call d (k.within refl)
