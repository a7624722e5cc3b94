-- One request by the rules without a log, accepted or refused: a call, a list by its lines one after another, a withdrawal; what it does to a sound book. Assumes nothing.
use Rattle.base.specs.Basics.{◌≡◌, ap, refl, subst, sym, Bool, cond, false, not, true, Option, none, some, List, [], ◌∷◌, ◌<◌, ℕ, zero, suc, arith, T, eqb, ◌∙◌}
use Rattle.base.specs.Basics.{ℤ, pos, ◌+ℤ◌, ne_eqb}
use Rattle.book_format.specs.Book.{bytes_of}
use Rattle.laws.proofs.Moved.{Moved, moved_refl, moved_trans}
use Rattle.laws.proofs.Refusals.{refusal_is}
use Rattle.laws.proofs.Sound.{none_refuses}
use Rattle.laws.proofs.Trades.{lowered_refl, lowered_trans}
use Rattle.laws.specs.Sound.{Sound}
use Rattle.laws.specs.Statements.{AllCovered}
use Rattle.laws.specs.Trades.{Lowered, Pairwise}
use Rattle.log_format.specs.Fits.{about_log, log_number}
use Rattle.requests.specs.Request.{call, postings, withdrawal, Act, Lines, Outcome, Setting, act_in, as_book, limits_on, lines_in, opening_in, opening_lines, opening_with_in, outcome, refused_given, step_in}
use Rattle.rules.specs.Book.{Book}
use Rattle.rules.specs.Calls.{posting, morning_call_of, afternoon_call_of, reduction, run, Call, Result, about, call_after, effect, itself, only, result_in, unchanged}
use Rattle.rules.specs.Levels.{Limits}
use Rattle.base.specs.Lists.{all}
use Rattle.rules.specs.Questions.{Question, after, first_of, refusal}
use Rattle.store.specs.Store.{about_store, store_number}
use Rattle.sequence.proofs.Step.{Effected, effect_law}
use Rattle.sequence.specs.Links.{accepted_number}
use Rattle.sequence.specs.Totals.{amount_in, amounts_in, counted, counted_in, line_amounts}

-- 1 for a list, 2 for a withdrawal, 0 for a call
kind_of : Act → ℕ
kind_of (call c) = 0
kind_of (postings v) = 1
kind_of withdrawal = 2

-- the call of an act; a list's is none of its lines'
call_of : Act → Call
call_of (call c) = c
call_of (postings v) = posting 0 0 (pos 0)
call_of withdrawal = posting 0 0 (pos 0)

-- a call is no withdrawal
call_no_withdrawal : {c : Call} → call c ≡ withdrawal → ⊥
unfolding kind_of
call_no_withdrawal e = let k : ◌≡◌ {A = ℕ} 0 2 = ap kind_of e in omega arith

-- equal acts are of equal calls
pub same_call : {c d : Call} → call c ≡ call d → c ≡ d
unfolding call_of
same_call e = ap call_of e

-- what an act with a log, or none, does; of a list each line counts by its own number
pub record Acted (limits : Limits) (b : Book) (log : Option (List ℕ)) (a : Act) (r : Outcome Book) : Type 0 where
  pub sound : Sound r.book
  pub moved : Moved b r.book (λ i. cond (accepted_number a r.answer.number) (amounts_in i a r.numbers) (pos 0))
      (cond (accepted_number a r.answer.number) (counted_in a r.answer.mwh) (pos 0))
      (cond (accepted_number a r.answer.number) (counted_in a r.answer.worth) (pos 0))
  pub lowered : (a ≡ withdrawal → ⊥) → Pairwise Lowered b.trades r.book.trades
  pub refused : T (not (accepted_number a r.answer.number)) → (r.book ≡ b) × (r.log ≡ log)
  pub covered : a ≡ call run → r.answer.number ≡ 0 → AllCovered limits r.book

-- ---- accepted and refused

-- 0 is the number of an accepted act
pub accepted_zero : (a : Act) {n : ℕ} → n ≡ 0 → accepted_number a n ≡ true
unfolding accepted_number
accepted_zero (call (posting id area amount)) e = rw e
accepted_zero (call (morning_call_of id)) e = rw e
accepted_zero (call (afternoon_call_of id)) e = rw e
accepted_zero (call (reduction id)) e = rw e
accepted_zero (call run) e = rw e
accepted_zero (postings v) e = rw e
accepted_zero withdrawal e = rw e

-- a question's number is that of a refusal; no question of a run has the number 20
unaccepted : (a : Act) (n : ℕ) → 0 < n → (a ≡ call run → T (not (eqb n 20))) → accepted_number a n ≡ false
unfolding accepted_number
unaccepted (call (posting id area amount)) n k h = ne_eqb n 0 (λ z. omega arith)
unaccepted (call (morning_call_of id)) n k h = ne_eqb n 0 (λ z. omega arith)
unaccepted (call (afternoon_call_of id)) n k h = ne_eqb n 0 (λ z. omega arith)
unaccepted (call (reduction id)) n k h = ne_eqb n 0 (λ z. omega arith)
unaccepted (call run) n k h = let z : eqb n 0 ≡ false = ne_eqb n 0 (λ z. omega arith) in rw z (go (eqb n 20) (h refl))
  where
    go : (c : Bool) → T (not c) → c ≡ false
    go true p = absurd p
    go false p = refl
unaccepted (postings v) n k h = ne_eqb n 0 (λ z. omega arith)
unaccepted withdrawal n k h = ne_eqb n 0 (λ z. omega arith)

module _ {limits : Limits} {b : Book} {log : Option (List ℕ)} where
  pub act_refused : (a : Act) (n : ℕ) → Sound b → 0 < n → (a ≡ call run → T (not (eqb n 20))) → Acted limits b log a (refused_given log b n)
  unfolding refused_given only
  act_refused a n s k h =
      let e = unaccepted a n k h in
      record { sound = s; moved = rw e (moved_refl b); lowered = λ w. lowered_refl b.trades; refused = λ q. (refl, refl); covered = λ d q. absurd (omega arith) }

  pub act_accepted : (a : Act) (r : Outcome Book) → accepted_number a r.answer.number ≡ true → Sound r.book
      → Moved b r.book (λ i. amounts_in i a r.numbers) (counted_in a r.answer.mwh) (counted_in a r.answer.worth)
      → ((a ≡ withdrawal → ⊥) → Pairwise Lowered b.trades r.book.trades)
      → (a ≡ call run → r.answer.number ≡ 0 → AllCovered limits r.book)
      → Acted limits b log a r
  act_accepted a r e s m l c = record { sound = s; moved = rw e m; lowered = l; refused = λ q. absurd (rw e at q); covered = c }

  -- a call that has an effect, with any log afterwards
  pub call_accepted : (c : Call) (r : Result Book) (m : Option (List ℕ)) → Effected limits b c r
      → Acted limits b log (call c) (record { answer = r.answer; numbers = []; book = r.book; log = m })
  unfolding amounts_in counted_in
  call_accepted c r m e =
      act_accepted (call c) (record { answer = r.answer; numbers = []; book = r.book; log = m }) (accepted_zero (call c) e.number) e.sound e.moved (λ w. e.lowered)
      (λ d n. e.covered (same_call d))

-- ---- the opening questions of a sound book by their number

-- no number that stops a run is 20, which is accepted
abbrev pub Plain : ℕ → Type 0
Plain n = T (not (eqb n 20))

pub number_plain : (qs : List Question) → T (all (λ q. not (eqb q.number 20)) qs) → Plain (refusal qs)
number_plain qs h = refusal_is (λ i. not (eqb i 20)) qs tt h

first_plain : (n m : ℕ) → Plain n → Plain m → Plain (first_of n m)
unfolding after
first_plain zero m h k = k
first_plain (suc n) m h k = h

module _ (g : Setting) (b : Book) (s : Sound b) where
  -- the book passes its own
  pub book_number_lem : as_book.number b ≡ 0
  book_number_lem = none_refuses b s

  pub opening_plain : Plain (opening_in as_book (as_book.number b) g b)
  unfolding opening_in store_number about_store all
  opening_plain =
      first_plain (as_book.number b) (store_number g.store b.header.date) (subst Plain (sym book_number_lem) tt) (go g.store)
    where
      go : (store : Option (List ℕ)) → Plain (store_number store b.header.date)
      go none = number_plain (about_store none b.header.date) tt
      go (some r) = number_plain (about_store (some r) b.header.date) tt

  pub logged_plain : (l : List ℕ) → Plain (opening_with_in as_book (as_book.number b) g (some l) b)
  unfolding opening_with_in log_number about_log all
  logged_plain l =
      first_plain (opening_in as_book (as_book.number b) g b) (log_number (some l) (bytes_of b)) opening_plain (number_plain (about_log (some l) (bytes_of b)) tt)

-- ---- calls

-- after its opening questions by their number
call_law : (limits : Limits) (b : Book) (c : Call) (n : ℕ) → Plain n → Sound b → Acted limits b none (call c) (outcome (call_after itself n limits b c))
unfolding call_after after unchanged result_in outcome refused_given about all
call_law limits b c zero h s = go (refusal (about limits b c)) refl
  where
    go : (m : ℕ) → refusal (about limits b c) ≡ m → Acted limits b none (call c) (outcome (after m (unchanged b) (result_in itself (effect limits b c))))
    go zero e = call_accepted c (effect limits b c) none (effect_law limits b c s e)
    go (suc m) e =
        act_refused (call c) (suc m) s (omega arith)
        (λ d. subst Plain (ap (λ (x : Call). refusal (about limits b x)) (sym (same_call d)) ∙ e) (number_plain (about limits b run) tt))
call_law limits b c (suc n) h s = act_refused (call c) (suc n) s (omega arith) (λ d. h)

-- in its setting
pub step_law : (g : Setting) (b : Book) (c : Call) → Sound b → Acted (limits_on g b) b none (call c) (outcome (step_in as_book (as_book.number b) g b c))
unfolding step_in
step_law g b c s = call_law (limits_on g b) b c (opening_in as_book (as_book.number b) g b) (opening_plain g b s) s

-- ---- the lines of a list

pub record Lined (b : Book) (areas : List ℕ) (amounts : List ℤ) (r : Outcome Book) : Type 0 where
  pub accepted : r.answer.number ≡ 0
  pub sound : Sound r.book
  pub moved : Moved b r.book (λ i. line_amounts i areas amounts r.numbers) (pos 0) (pos 0)
  pub lowered : Pairwise Lowered b.trades r.book.trades

-- without a line nothing is added
no_amounts : (i : ℕ) (areas : List ℕ) (amounts : List ℤ) → pos 0 ≡ line_amounts i areas amounts []
unfolding line_amounts
no_amounts i [] amounts = refl
no_amounts i (area ∷ areas) [] = refl
no_amounts i (area ∷ areas) (z ∷ amounts) = refl

no_lines : (b : Book) (areas : List ℕ) (amounts : List ℤ) → Sound b → Lined b areas amounts (record { answer = only 0; numbers = []; book = b; log = none })
unfolding only
no_lines b areas amounts s =
    record {
      accepted = refl;
      sound = s;
      moved = subst (λ (f : ℕ → ℤ). Moved b b f (pos 0) (pos 0)) (λ j i. no_amounts i areas amounts j) (moved_refl b);
      lowered = lowered_refl b.trades;
    }

-- a posting reports no cut
nothing_cut : (c : Bool) → cond c (pos 0) (pos 0) +ℤ pos 0 ≡ pos 0
nothing_cut true = refl
nothing_cut false = refl

pub lines_law : (g : Setting) (b : Book) (ids areas : List ℕ) (amounts : List ℤ) → Sound b → Lined b areas amounts (lines_in as_book g b ids areas amounts)
unfolding lines_in line_amounts amounts_in amount_in counted_in counted accepted_number only outcome
lines_law g b [] areas amounts s = no_lines b areas amounts s
lines_law g b (id ∷ ids) [] amounts s = no_lines b [] amounts s
lines_law g b (id ∷ ids) (area ∷ areas) [] s = no_lines b (area ∷ areas) [] s
lines_law g b (id ∷ ids) (area ∷ areas) (z ∷ amounts) s =
    let first = step_in as_book (as_book.number b) g b (posting id area z) in
    let p = step_law g b (posting id area z) s in
    let rest = lines_in as_book g first.book ids areas amounts in
    let q = lines_law g first.book ids areas amounts p.sound in
    let n = eqb first.answer.number 0 in
    let added : ℕ → ℤ = λ i. line_amounts i (area ∷ areas) (z ∷ amounts) (first.answer.number ∷ rest.numbers) in
    record {
      accepted = refl;
      sound = q.sound;
      moved = subst (λ (x : ℤ). Moved b rest.book added x (pos 0)) (nothing_cut n) (subst (λ (x : ℤ). Moved b rest.book added (cond n (pos 0) (pos 0) +ℤ pos 0) x) (nothing_cut n) (moved_trans p.moved q.moved));
      lowered = lowered_trans (p.lowered call_no_withdrawal) q.lowered;
    }

-- ---- lists

-- a list is no run
pub list_no_run : {v : Lines} → postings v ≡ call run → ⊥
unfolding kind_of
list_no_run e = let k : ◌≡◌ {A = ℕ} 1 0 = ap kind_of e in omega arith

-- an accepted list, with any log afterwards
pub list_accepted : {limits : Limits} {b : Book} {log : Option (List ℕ)} (v : Lines) (r : Outcome Book) (m : Option (List ℕ)) → Lined b v.areas v.amounts r
    → Acted limits b log (postings v) (record { answer = r.answer; numbers = r.numbers; book = r.book; log = m })
unfolding amounts_in counted_in
list_accepted v r m l =
    act_accepted (postings v) (record { answer = r.answer; numbers = r.numbers; book = r.book; log = m }) (accepted_zero (postings v) l.accepted) l.sound l.moved (λ w. l.lowered)
    (λ e h. absurd (list_no_run e))

-- ---- a withdrawal without a log is refused

pub withdrawal_no_run : withdrawal ≡ call run → ⊥
unfolding kind_of
withdrawal_no_run e = let k : ◌≡◌ {A = ℕ} 2 0 = ap kind_of e in omega arith

-- ---- an act without a log

pub act_law : (g : Setting) (b : Book) (a : Act) → Sound b → Acted (limits_on g b) b none a (act_in as_book (as_book.number b) g b a)
unfolding act_in after
act_law g b (call c) s = step_law g b c s
act_law g b (postings v) s = go (opening_in as_book (opening_lines (as_book.number b) v) g b)
  where
    list_left : (r : Outcome Book) → Lined b v.areas v.amounts r → Acted (limits_on g b) b none (postings v) r
    list_left r l = list_accepted v r r.log l

    go : (n : ℕ) → Acted (limits_on g b) b none (postings v) (after n (refused_given none b) (lines_in as_book g b v.ids v.areas v.amounts))
    go zero = list_left (lines_in as_book g b v.ids v.areas v.amounts) (lines_law g b v.ids v.areas v.amounts s)
    go (suc n) = act_refused (postings v) (suc n) s (omega arith) (λ d. absurd (list_no_run d))
act_law g b withdrawal s = go (opening_in as_book (as_book.number b) g b)
  where
    go : (n : ℕ) → Acted (limits_on g b) b none withdrawal (refused_given none b (first_of n 18))
    go zero = act_refused withdrawal 18 s (omega arith) (λ d. absurd (withdrawal_no_run d))
    go (suc n) = act_refused withdrawal (suc n) s (omega arith) (λ d. absurd (withdrawal_no_run d))
