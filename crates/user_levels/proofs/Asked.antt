-- The levels of all users by the number of their opening questions: who is told, and what the public call gives. Assumes nothing.
use Rattle.base.specs.Basics.{◌≡◌, ◌∙◌, ap, refl, sym, List, ℕ, suc, zero}
use Rattle.rules.specs.Levels.{Limits}
use Rattle.rules.specs.Questions.{after}
use Rattle.book_format.specs.Book.{book_of}
use Rattle.book_format.specs.Questions.{book_number}
use Rattle.requests.specs.Carried.{Admitted}
use Rattle.requests.specs.Request.{Setting, limits_on, opening_in}
use Rattle.rights.proofs.Operator.{operator_asked, shipper_number, shipper_stopped}
use Rattle.rights.specs.Acting.{entering_number}
use Rattle.rights.specs.Party.{Party, operator, operators, right_number, shipper_of}
use Rattle.user_levels.specs.Claims.{LevelsBy}
use Rattle.user_levels.specs.Levels.{AllLevels, all_levels_after, all_levels_by, levels_after, no_levels, all_levels}
use Rattle.laws.proofs.Refusals.{after_refused}

-- ---- by the number of the questions

-- the figures count only where nothing refuses
levels_same : (n : ℕ) {l m : Limits} (s : List ℕ) → (n ≡ 0 → l ≡ m) → levels_after n l s ≡ levels_after n m s
unfolding levels_after after
levels_same zero s h = ap (λ (k : Limits). levels_after 0 k s) (h refl)
levels_same (suc n) s h = refl

-- what the public call gives, from what asked its opening questions
pub levels_told_lem : (actor : Party) (g : Setting) (s : List ℕ) {number : ℕ} {limits : Limits}
    → Admitted (entering_number actor operators s) g s number limits → levels_after number limits s ≡ all_levels_by actor g s
unfolding all_levels_after
levels_told_lem actor g s {number} d = levels_same number s d.taken ∙ ap (λ (n : ℕ). levels_after n (limits_on g (book_of s)) s) d.asked

-- ---- who is told

-- a refusal by the questions up to 26
levels_stopped : (g : Setting) (s : List ℕ) (n : ℕ) → all_levels_after (suc n) g s ≡ no_levels (suc n)
unfolding all_levels_after levels_after opening_in after
levels_stopped g s n = refl

operators_levels : (g : Setting) (s : List ℕ) → all_levels_by operator g s ≡ all_levels g s
operators_levels g s = ap (λ (n : ℕ). all_levels_after n g s) (operator_asked operators s)

shippers_levels : (party : ℕ) (g : Setting) (s : List ℕ) → book_number s ≡ 0 → all_levels_by (shipper_of party) g s ≡ no_levels 26
shippers_levels party g s e = ap (λ (n : ℕ). all_levels_after n g s) (shipper_number party s e) ∙ levels_stopped g s 25

failing_levels : (actor : Party) (g : Setting) (s : List ℕ) (n : ℕ) → book_number s ≡ suc n → all_levels_by actor g s ≡ no_levels (suc n)
unfolding entering_number
failing_levels actor g s n e = ap (λ (k : ℕ). all_levels_after k g s) (after_refused (λ k. k) (right_number (book_of s) actor operators) e) ∙ levels_stopped g s n

-- a shipper has no number 0
accepted_levels : (actor : Party) (g : Setting) (s : List ℕ) → (all_levels_by actor g s).number ≡ 0 → actor ≡ operator
unfolding no_levels
accepted_levels operator g s e = refl
accepted_levels (shipper_of party) g s e =
    absurd (shipper_stopped party s (λ n. all_levels_after n g s) (λ (x : AllLevels). x.number) (λ n. ap (λ (x : AllLevels). x.number) (levels_stopped g s n)) e)

pub levels_by_claim : LevelsBy
levels_by_claim =
    record {
      of_operator = operators_levels;
      of_shipper = shippers_levels;
      agreed = λ party g s t passes also h. shippers_levels party g s passes ∙ sym (shippers_levels party g t also);
      book_first = failing_levels;
      accepted = accepted_levels;
    }
