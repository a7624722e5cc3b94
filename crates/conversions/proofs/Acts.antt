-- What an act without a log gives on a book as a version: the same answer and numbers, and the book as that version. Assumes nothing.
use Rattle.base.specs.Basics.{◌≡◌, refl, subst, sym, ap, ◌∙◌, none, List, [], ◌∷◌, ℕ, zero, suc, ℤ}
use Rattle.rules.specs.Book.{Book}
use Rattle.rules.specs.Calls.{Call, Result, about, call_after, effect, itself, only, posting, result_in, unchanged}
use Rattle.rules.specs.Levels.{Limits}
use Rattle.rules.specs.Questions.{after, first_of, refusal}
use Rattle.laws.specs.Sound.{Sound}
use Rattle.requests.specs.Request.{Act, Outcome, Setting, act_in, as_book, call, limits_on, lines_in, opening_in, opening_lines, outcome, postings, refused_given, step_in, withdrawal}
use Rattle.sequence.proofs.Acts.{book_number_lem, step_law}
use Rattle.store.specs.Store.{store_number}
use Rattle.conversions.specs.Conversion.{as_version}
use Rattle.conversions.proofs.Alike.{about_alike, effect_alike, result_as}

-- what an act gives, with the book as a version
unfoldable pub outcome_as : ℕ → Outcome Book → Outcome Book
outcome_as v e = record { answer = e.answer; numbers = e.numbers; book = as_version v e.book; log = e.log }

module _ (g : Setting) (v : ℕ) where
  call_alike : (n : ℕ) (limits : Limits) (b : Book) (c : Call) → call_after itself n limits (as_version v b) c ≡ result_as v (call_after itself n limits b c)
  unfolding call_after after unchanged result_in result_as
  call_alike (suc n) limits b c = refl
  call_alike zero limits b c = rw (about_alike limits v b c, effect_alike limits v b c) (go (refusal (about limits b c)) (effect limits b c))
    where
      go : (m : ℕ) (r : Result Book) → after m (unchanged (as_version v b)) (result_in itself (result_as v r)) ≡ result_as v (after m (unchanged b) (result_in itself r))
      go zero r = refl
      go (suc m) r = refl

  -- in a setting: the date is the same, and so are the figures and the number of the store's questions
  step_alike : (n : ℕ) (b : Book) (c : Call) → step_in as_book n g (as_version v b) c ≡ result_as v (step_in as_book n g b c)
  unfolding step_in opening_in limits_on as_version
  step_alike n b c = call_alike (first_of n (store_number g.store b.header.date)) (limits_on g b) b c

  -- both books pass their own questions
  number_alike : (b : Book) → Sound b → Sound (as_version v b) → as_book.number (as_version v b) ≡ as_book.number b
  number_alike b s t = book_number_lem g (as_version v b) t ∙ sym (book_number_lem g b s)

  -- the lines of a list, one after another
  lines_alike : (b : Book) (ids areas : List ℕ) (amounts : List ℤ) → Sound b → Sound (as_version v b)
      → lines_in as_book g (as_version v b) ids areas amounts ≡ outcome_as v (lines_in as_book g b ids areas amounts)
  unfolding lines_in outcome_as result_as outcome
  lines_alike b [] areas amounts s t = refl
  lines_alike b (id ∷ ids) [] amounts s t = refl
  lines_alike b (id ∷ ids) (area ∷ areas) [] s t = refl
  lines_alike b (id ∷ ids) (area ∷ areas) (z ∷ amounts) s t =
      let c = posting id area z in
      let n = as_book.number b in
      let first = step_in as_book n g b c in
      let e : step_in as_book (as_book.number (as_version v b)) g (as_version v b) c ≡ result_as v first
      = ap (λ (k : ℕ). step_in as_book k g (as_version v b) c) (number_alike b s t) ∙ step_alike n b c in
      let s' : Sound first.book = (step_law g b c s).sound in
      let t' : Sound (as_version v first.book) = subst (λ (r : Result Book). Sound r.book) e (step_law g (as_version v b) c t).sound in
      let rest = lines_alike first.book ids areas amounts s' t' in
      ap (λ (r : Result Book). line r (lines_in as_book g r.book ids areas amounts)) e ∙ ap (line (result_as v first)) rest
    where
      line : Result Book → Outcome Book → Outcome Book
      line first rest = record { answer = only 0; numbers = first.answer.number ∷ rest.numbers; book = rest.book; log = none }

  -- after a list's opening questions
  after_alike : (n : ℕ) (b : Book) (e : Outcome Book) → after n (refused_given none (as_version v b)) (outcome_as v e) ≡ outcome_as v (after n (refused_given none b) e)
  unfolding after refused_given outcome_as
  after_alike zero b e = refl
  after_alike (suc n) b e = refl

  act_after : (n : ℕ) (b : Book) (a : Act) → Sound b → Sound (as_version v b) → act_in as_book n g (as_version v b) a ≡ outcome_as v (act_in as_book n g b a)
  unfolding act_in opening_in outcome outcome_as result_as refused_given as_version
  act_after n b (call c) s t = ap outcome (step_alike n b c)
  act_after n b (postings w) s t =
      let k = first_of (opening_lines n w) (store_number g.store b.header.date) in
      ap (λ (e : Outcome Book). after k (refused_given none (as_version v b)) e) (lines_alike b w.ids w.areas w.amounts s t)
      ∙ after_alike k b (lines_in as_book g b w.ids w.areas w.amounts)
  act_after n b withdrawal s t = refl

  pub act_alike : (b : Book) (a : Act) → Sound b → Sound (as_version v b)
      → act_in as_book (as_book.number (as_version v b)) g (as_version v b) a ≡ outcome_as v (act_in as_book (as_book.number b) g b a)
  act_alike b a s t = ap (λ (n : ℕ). act_in as_book n g (as_version v b) a) (number_alike b s t) ∙ act_after (as_book.number b) b a s t
