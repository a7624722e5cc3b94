-- What deposit stops the cuts, on a book in bytes: a refused run leaves the bytes and reports none; of one that passes its opening questions the laws of the rules tell both, with a log
-- and without one. Assumes nothing.
use Rattle.base.specs.Basics.{◌≡◌, ◌∙◌, ap, refl, subst, sym, Option, none, some, List, Memᴰ, ℕ, ◌<◌, suc, zero, arith, T}
use Rattle.fields.specs.Field.{AllBytes}
use Rattle.book_format.proofs.Formed.{book_passed}
use Rattle.book_format.proofs.Passed.{passed_of}
use Rattle.book_format.proofs.Round.{bytes_of_book_of}
use Rattle.book_format.specs.Book.{book_of, bytes_of}
use Rattle.book_format.specs.Questions.{book_number}
use Rattle.book_format.specs.Steps.{in_bytes}
use Rattle.laws_deposits.proofs.Deposits.{deposits_least, deposits_suffice}
use Rattle.laws_deposits.specs.Deposits.{lacking, with_deposits}
use Rattle.log_format.specs.Noted.{call_entered, lastly, room, run_within, stopped}
use Rattle.requests.proofs.Emptied.{with_opening}
use Rattle.requests.proofs.Logged.{without_number}
use Rattle.requests.proofs.Opened.{opening-zero}
use Rattle.requests.specs.Request.{act_of, call, act_by, act_in, act_with, as_bytes, entered_in, limits_on, logged_after, opening, opening_with, outcome, refused_given, request, request_in, setting_of, step_in}
use Rattle.rules.specs.Book.{Book, User}
use Rattle.rules.specs.Calls.{Answer, Result, about, call_after, cuttable, effect, next_reduced, only, result_in, run, run_for, unchanged}
use Rattle.rules.specs.Changes.{with_users}
use Rattle.rules.specs.Levels.{Limits, short_of_cover}
use Rattle.rules.specs.Questions.{after, refusal}
use Rattle.rules.specs.Reduction.{has_eligible, target}
use Rattle.sequence.specs.Deposits.{DepositsStop}
use Rattle.store.specs.Store.{limits_of}

-- ---- a run on bytes, by the number of its opening questions

-- what a run that passes them gives on a book: without a log, or with one that has room for some entries
unfoldable runs : Limits → Option (List ℕ) → Book → Result Book
runs limits none b = effect limits b run
runs limits (some l) b = run_within limits (room l) b

module _ (store : Option (List ℕ)) (s : List ℕ) where
  -- the figures in force on the book's date
  abbrev figures : Limits
  figures = limits_on (setting_of store) (book_of s)

  -- the opening questions of a run without a log, and with one
  abbrev asked : Option (List ℕ) → ℕ
  asked log = opening_with (book_number s) (setting_of store) log s

  -- a run as it is by their number
  by_number : (log : Option (List ℕ)) (P : ℕ → Answer → List ℕ → Type 0) → ((n : ℕ) → P (suc n) (only (suc n)) s)
      → (book_number s ≡ 0 → let r = runs figures log (book_of s) in P 0 r.answer (bytes_of r.book))
      → let x = request (act_of store log (call run)) s in P (asked log) x.answer x.book
  unfolding request_in act_by act_in act_with step_in outcome runs call_after unchanged logged_after after result_in refusal about lastly call_entered entered_in refused_given
  by_number none P refused passed =
      subst (λ (n : ℕ). P n (request (act_of store none (call run)) s).answer (request (act_of store none (call run)) s).book) (sym (without_number (book_number s) (setting_of store) s))
      (go (opening (book_number s) (setting_of store) s) (λ e. passed (opening-zero (book_number s) (setting_of store) s e)))
    where
      go : (n : ℕ) → (n ≡ 0 → let r = runs figures none (book_of s) in P 0 r.answer (bytes_of r.book))
          → let x = call_after in_bytes n figures s run in P n x.answer x.book
      go zero h = h refl
      go (suc n) h = refused n
  by_number (some l) P refused passed =
      go (asked (some l)) (λ e. passed (opening-zero (book_number s) (setting_of store) s (with_opening (book_number s) (setting_of store) (some l) s e)))
    where
      go : (n : ℕ) → (n ≡ 0 → let r = runs figures (some l) (book_of s) in P 0 r.answer (bytes_of r.book))
          → let x = logged_after as_bytes n figures l s run in P n x.answer x.book
      go zero h = h refl
      go (suc n) h = refused n

-- ---- the laws of the rules, of such a run

module _ (limits : Limits) where
  -- each user deposited what it lacked: nothing is done, whatever the log has room for
  idle : (log : Option (List ℕ)) (b : Book) → let c = with_deposits (lacking limits b) b in runs limits log c ≡ record { answer = only 0; book = c }
  unfolding runs effect with_deposits with_users run_within stopped
  idle none b = (deposits_suffice limits).run (cuttable b.trades) b
  idle (some l) b =
      ap (λ (r : Result Book). record { answer = stopped (next_reduced limits r.book r.book.users) r.answer; book = r.book }) ((deposits_suffice limits).run (room l) b)
      ∙ ap (λ (o : Option User). record { answer = stopped o (only 0); book = with_deposits (lacking limits b) b }) ((deposits_suffice limits).next b)

  -- one deposited less: a run that returns 0 reduces
  module _ (b : Book) (amounts : User → ℕ) (u : User) (m : Memᴰ u b.users) (k : T (short_of_cover limits b u)) (h : T (has_eligible b u)) (i : amounts u < target limits b u) where
    reduces : (log : Option (List ℕ)) → let a = (runs limits log (with_deposits amounts b)).answer in a.number ≡ 0 → 0 < a.reductions
    unfolding runs run_within stopped run_for only
    reduces none e = (deposits_least limits).called amounts b u m k h i
    reduces (some l) e = go (room l) e
      where
        after_some : (o : Option User) (a : Answer) → 0 < a.reductions → 0 < (stopped o a).reductions
        after_some none a p = p
        after_some (some v) a p = p

        none_yet : (o : Option User) → (o ≡ none → ⊥) → (stopped o (only 0)).number ≡ 0 → 0 < (stopped o (only 0)).reductions
        none_yet none f z = absurd (f refl)
        none_yet (some v) f z = absurd (omega arith)

        go : (n : ℕ) → let a = (run_within limits n (with_deposits amounts b)).answer in a.number ≡ 0 → 0 < a.reductions
        go zero z = none_yet (next_reduced limits (with_deposits amounts b) (with_deposits amounts b).users) ((deposits_least limits).next amounts b u m k h i) z
        go (suc n) z =
            let r = run_for limits (suc n) (with_deposits amounts b) in
            after_some (next_reduced limits r.book r.book.users) r.answer ((deposits_least limits).runs (suc n) amounts b u m k h i (omega arith))

-- ---- by the contract

module _ (store log : Option (List ℕ)) where
  suffices : (b : Book) (s : List ℕ) → AllBytes s → book_of s ≡ with_deposits (lacking (limits_of store b.header.date) b) b
      → let x = request (act_of store log (call run)) s in (x.answer ≡ only (opening_with (book_number s) (setting_of store) log s)) × (x.book ≡ s)
  unfolding limits_on with_deposits with_users
  suffices b s h e =
      by_number store s log (λ n a t. (a ≡ only n) × (t ≡ s)) (λ n. (refl, refl))
      (λ z. let r : runs (figures store s) log (book_of s) ≡ record { answer = only 0; book = with_deposits (lacking (limits_of store b.header.date) b) b }
      = ap (λ (c : Book). runs (limits_on (setting_of store) c) log c) e ∙ idle (limits_of store b.header.date) log b in
      (ap (λ (x : Result Book). x.answer) r, ap (λ (x : Result Book). bytes_of x.book) r ∙ ap bytes_of (sym e) ∙ bytes_of_book_of s h (passed_of s (book_passed s z))))

  lessens : (b : Book) (amounts : User → ℕ) (u : User) (s : List ℕ) → book_of s ≡ with_deposits amounts b → Memᴰ u b.users
      → let limits = limits_of store b.header.date in T (short_of_cover limits b u) → T (has_eligible b u) → amounts u < target limits b u
      → let x = request (act_of store log (call run)) s in x.answer.number ≡ 0 → 0 < x.answer.reductions
  unfolding limits_on with_deposits with_users only
  lessens b amounts u s e m k h i =
      by_number store s log (λ n a t. a.number ≡ 0 → 0 < a.reductions) (λ n z. absurd (omega arith))
      (λ z. subst (λ (c : Book). let a = (runs (limits_on (setting_of store) c) log c).answer in a.number ≡ 0 → 0 < a.reductions) (sym e)
      (reduces (limits_of store b.header.date) b amounts u m k h i log))

pub deposits_stop : (store log : Option (List ℕ)) → DepositsStop store log
deposits_stop store log =
    record {
      suffice = λ b {s} {t} {a} h e k. let p = suffices store log b s h e in (k.answer ∙ p.0, k.bytes ∙ p.1);
      least = λ b amounts u {s} {t} {a} e m short has low k z.
          subst (λ (x : Answer). 0 < x.reductions) (sym k.answer) (lessens store log b amounts u s e m short has low (sym (ap (λ (x : Answer). x.number) k.answer) ∙ z));
    }
