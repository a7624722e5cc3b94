-- The opening questions with that of a lent log are those without it, and then 19. Assumes nothing.
use Rattle.base.specs.Basics.{◌≡◌, sym, ap, ◌∙◌, Bool, cond, true, false, List, [], ◌∷◌, ℕ, arith, T}
use Rattle.book_format.specs.Questions.{book_number}
use Rattle.log_format.specs.Fits.{about_log, log_fits, log_number}
use Rattle.requests.proofs.Lines.{fit_number}
use Rattle.requests.proofs.Opened.{opening-zero}
use Rattle.requests.specs.Carried.{Admitted}
use Rattle.requests.specs.Logged.{AdmittedWith}
use Rattle.requests.specs.Request.{Lines, Setting, lines_fit, opening, opening_lines, opening_with, opening_with_in}
use Rattle.rights.proofs.Entered.{entering_book}
use Rattle.rights.specs.Acting.{entering_number}
use Rattle.rights.specs.Party.{Matter, Party}
use Rattle.rules.specs.Levels.{Limits}
use Rattle.rules.specs.Questions.{after, first_of, refusal}
use Rattle.store.specs.Store.{given}
use Rattle.call_admission.specs.Log.{LogAsked}
use Rattle.laws.proofs.Refusals.{after_nonzero, first_zero}

-- ---- asked

-- 19 is not the number: it was answered by yes
unrefused : (x : Bool) → refusal (record { number = 19; holds = x } ∷ []) ≡ 0 → T x
unfolding refusal after
unrefused true z = tt
unrefused false z = absurd (omega (arith, z))

module _ (l s : List ℕ) (lent : Bool) where
  -- another question refuses
  pub log_unasked : {asked : ℕ} → (asked ≡ 0 → ⊥) → LogAsked asked lent l s asked
  log_unasked h = record { is = sym (after_nonzero (λ k. k) _ h); before = λ z. z; fits = λ z. absurd (h z) }

  log_number_fits : lent ≡ true → log_number (given lent l) s ≡ 0 → T (log_fits l s)
  unfolding given log_number about_log
  log_number_fits e z = unrefused (log_fits l s) (rw e at z)

  pub log_asked : {asked number : ℕ} → asked ≡ 0 → number ≡ log_number (given lent l) s → LogAsked asked lent l s number
  unfolding after
  log_asked z e = record { is = rw z e; before = λ k. z; fits = λ k t. log_number_fits t (sym e ∙ k) }

-- ---- what the calls cite

pub admitted_with : {n : ℕ} {g : Setting} {s l : List ℕ} {asked number : ℕ} {limits : Limits} (lent : Bool) → Admitted n g s asked limits → LogAsked asked lent l s number
    → AdmittedWith n g (given lent l) s number limits
unfolding opening_with_in
admitted_with {s = s} {l} lent a k =
    record { asked = k.is ∙ ap (λ (n : ℕ). first_of n (log_number (given lent l) s)) a.asked; taken = λ z. a.taken (k.before z) }

-- of a list, whose question 15 was answered by what it passes
pub lines_with : (n : ℕ) (g : Setting) (v : Lines) {fits : Bool} {s l : List ℕ} {asked number : ℕ} (lent : Bool) → fits ≡ lines_fit v → asked ≡ opening (first_of n (cond fits 0 15)) g s
    → LogAsked asked lent l s number → number ≡ opening_with (opening_lines n v) g (given lent l) s
unfolding opening_with_in opening_lines
lines_with n g v {s = s} {l} lent e a k =
    k.is
    ∙ ap (λ (i : ℕ). first_of i (log_number (given lent l) s)) a
    ∙ ap (λ (i : ℕ). first_of (opening (first_of n i) g s) (log_number (given lent l) s)) (ap (λ (c : Bool). cond {A = ℕ} c 0 15) e ∙ sym (fit_number v))

-- it passes the questions of the book where none refuses
pub list_entered : (actor : Party) (m : Matter) (g : Setting) (fits : Bool) (s : List ℕ) {number : ℕ} → number ≡ opening (first_of (entering_number actor m s) (cond fits 0 15)) g s → number ≡ 0 → book_number s ≡ 0
list_entered actor m g fits s e z = entering_book actor m s (first_zero _ (cond fits 0 15) (opening-zero _ g s (sym e ∙ z)))
