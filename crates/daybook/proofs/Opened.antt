-- What the opening questions give a call where none of them refuses, in the parts that the calls ask for. Assumes nothing.
use Rattle.std.specs.Prelude.{Ok, Err, IfOk, Result}
use Rattle.base.specs.Basics.{◌≡◌, ◌∙◌, refl, sym, List, ℕ}
use Rattle.book_format.specs.Questions.{book_number}
use Rattle.book_questions.specs.Opened.{Opened, OpenedFigures, OpenedParties, OpenedSums}
use Rattle.refusals.proofs.Numbers.{refused-nonzero}
use Rattle.refusals.specs.Refusal.{number_in}
use Rattle.refusals.specs.declared.Refusal.{Refusal}
use Rattle.rights.proofs.Entered.{entering_book}
use Rattle.rights.specs.Acting.{entering_number}
use Rattle.rights.specs.Party.{Matter, Party}
use Rattle.units.specs.Limits.{as_limits}
use Rattle.units.specs.declared.Limits.{Limits}

module _ (s : List ℕ) where
  -- a book that passes its questions
  pub figures_pass : (r : Result Limits Refusal) → IfOk r (λ limits. OpenedFigures (as_limits limits) s) → IfOk r (λ limits. book_number s ≡ 0)
  figures_pass (Ok limits) h = h.passes
  figures_pass (Err e) h = tt

  pub passes_at : (r : Result Limits Refusal) → IfOk r (λ limits. book_number s ≡ 0) → number_in r ≡ 0 → book_number s ≡ 0
  passes_at (Ok limits) h z = h
  passes_at (Err e) h z = absurd (refused-nonzero e z)

  module _ (sellers buyers sums : List ℕ) where
    pub sums_opened : (r : Result Limits Refusal) → IfOk r (λ limits. Opened (as_limits limits) s sellers buyers sums) → IfOk r (λ limits. OpenedSums (as_limits limits) s sums)
    sums_opened (Ok limits) h = h.summed
    sums_opened (Err e) h = tt

    pub parties_opened : (r : Result Limits Refusal) → IfOk r (λ limits. Opened (as_limits limits) s sellers buyers sums) → IfOk r (λ limits. OpenedParties s sellers buyers)
    parties_opened (Ok limits) h = h.parties
    parties_opened (Err e) h = tt

    pub opened_pass : (r : Result Limits Refusal) → IfOk r (λ limits. Opened (as_limits limits) s sellers buyers sums) → number_in r ≡ 0 → book_number s ≡ 0
    opened_pass (Ok limits) h z = h.parties.passes
    opened_pass (Err e) h z = absurd (refused-nonzero e z)

-- what is so of the figures of the opening questions is so of those that the question of the log hands on
pub handed_on : {A : Type 0} (P : A → Type 0) (opened asked : Result A Refusal) → IfOk asked (λ value. opened ≡ Ok value) → IfOk opened P → IfOk asked P
handed_on P opened (Ok value) e h = rw e at h
handed_on P opened (Err refusal) e h = tt

-- where no question up to 26 refuses, none of the book's does
pub entered_pass : (actor : Party) (m : Matter) (s : List ℕ) (entered : Result Unit Refusal) → number_in entered ≡ entering_number actor m s → number_in entered ≡ 0 → book_number s ≡ 0
entered_pass actor m s entered e z = entering_book actor m s (sym e ∙ z)

-- what holds of a call that no question refuses
pub when_ok : (P : Type 0) (r : Result Limits Refusal) → (number_in r ≡ 0 → P) → IfOk r (λ limits. P)
when_ok P (Ok limits) h = h refl
when_ok P (Err e) h = tt
