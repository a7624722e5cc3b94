-- The number of the opening questions is that of those before the store, or where it is 0 that of the store; the figures are those of the setting. Assumes nothing.
use Rattle.std.specs.Prelude.{Ok, Err, IfOk, Result}
use Rattle.base.specs.Basics.{◌≡◌, refl, subst, sym, Bool, cond, false, true, Option, none, List, ℕ, arith}
use Rattle.fields.specs.Field.{field}
use Rattle.book_format.specs.Book.{book_of}
use Rattle.book_format.specs.Questions.{book_number}
use Rattle.book_questions.specs.Opened.{Opened, OpenedFigures}
use Rattle.refusals.proofs.Numbers.{refused-nonzero}
use Rattle.refusals.specs.Refusal.{number_of}
use Rattle.refusals.specs.declared.Refusal.{Refusal}
use Rattle.rules.specs.Levels.{Limits, today}
use Rattle.rules.specs.Questions.{after, first_of}
use Rattle.store.specs.Asked.{ByStore, figures_in}
use Rattle.store.specs.Store.{limits_of}
use Rattle.store.proofs.Ways.{limits_in_range}
use Rattle.units.specs.Limits.{LimitsInRange, as_limits}
use Rattle.units.specs.declared.Limits as code
use Rattle.requests.specs.Carried.{Admitted}
use Rattle.requests.specs.Request.{Setting, limits_on, opening_in, setting_of}
use Rattle.rights.proofs.Entered.{entering_book}
use Rattle.rights.specs.Acting.{entering_number}
use Rattle.rights.specs.Party.{Matter, Party}
use Rattle.laws.proofs.Refusals.{after_nonzero}

-- ---- what `?` leaves

-- the figures of a call that is refused
pub refused_range : LimitsInRange today
unfolding limits_of
refused_range = limits_in_range none 0

-- what holds of the figures of an opened call, whatever they are
pub when_opened : (r : Result code.Limits Refusal) {s : List ℕ} → OpenedFigures (figures_in r) s → IfOk r (λ limits. OpenedFigures (as_limits limits) s)
when_opened (Ok limits) h = h
when_opened (Err e) h = tt

pub when_summed : (r : Result code.Limits Refusal) {s sellers buyers sums : List ℕ} → Opened (figures_in r) s sellers buyers sums
    → IfOk r (λ limits. Opened (as_limits limits) s sellers buyers sums)
when_summed (Ok limits) h = h
when_summed (Err e) h = tt

-- a refusal is the first, whatever is asked after it
pub refused_first : (e : Refusal) (m : ℕ) {n : ℕ} → number_of e ≡ n → number_of e ≡ first_of n m
refused_first e m h = rw (← h) (sym (after_nonzero (λ k. k) m (refused-nonzero e)))

-- where no question up to 26 refuses, none of the book's does
pub entered_book : (actor : Party) (m : Matter) (s : List ℕ) → 0 ≡ entering_number actor m s → book_number s ≡ 0
entered_book actor m s e = entering_book actor m s (sym e)

-- ---- the figures

module _ (s : List ℕ) (store : Option (List ℕ)) where
  -- a question before the store's refuses: whatever the figures
  pub admitted_refused : (e : Refusal) {asked : ℕ} {limits : Limits} → number_of e ≡ asked → Admitted asked (setting_of store) s (number_of e) limits
  unfolding opening_in
  admitted_refused e h = record { asked = refused_first e _ h; taken = λ z. absurd (refused-nonzero e z) }

  -- none does: by the store, on the book's date
  pub admitted_by_store : {limits : Limits} {date number : ℕ} → date ≡ field 4 8 s → ByStore store date number limits → Admitted 0 (setting_of store) s number limits
  unfolding after book_of limits_on opening_in
  admitted_by_store d f = let g = rw d at f in record { asked = g.asked; taken = λ k. g.taken }

-- after questions that are passed
pub admitted_by : {n number : ℕ} {g : Setting} {s : List ℕ} {limits : Limits} → 0 ≡ n → Admitted 0 g s number limits → Admitted n g s number limits
admitted_by {number = number} {g} {s} {limits} e a = subst (λ (n : ℕ). Admitted n g s number limits) e a

-- ---- a list

module _ (g : Setting) (s : List ℕ) (fits : Bool) {n : ℕ} where
  -- a question before 15 refuses: whatever the figures
  pub list_refused : (e : Refusal) {limits : Limits} → number_of e ≡ n → Admitted (first_of n (cond fits 0 15)) g s (number_of e) limits
  unfolding opening_in
  list_refused e h = record { asked = refused_first e _ (refused_first e _ h); taken = λ z. absurd (refused-nonzero e z) }

  -- 15 does: whatever the figures
  pub list_unfit : {limits : Limits} → 0 ≡ n → fits ≡ false → Admitted (first_of n (cond fits 0 15)) g s 15 limits
  unfolding after opening_in
  list_unfit z e = record { asked = rw (← z, e) refl; taken = λ k. absurd (omega (arith, k)) }

  -- none of them does: by the store
  pub list_by_store : {number : ℕ} {limits : Limits} → 0 ≡ n → fits ≡ true → Admitted 0 g s number limits → Admitted (first_of n (cond fits 0 15)) g s number limits
  unfolding after
  list_by_store z e a = rw (← z, e) a
