-- One request by the rules with a log, accepted or refused: a call, a list, a withdrawal; what it does to a sound book, whatever log it is given. Assumes nothing.
use Rattle.base.specs.Basics.{◌≡◌, ap, refl, subst, Option, none, some, List, [], ◌∷◌, ◌++◌, ℕ, zero, suc, arith, T, ltb, length, sym, ◌∙◌}
use Rattle.base.specs.Lists.{all}
use Rattle.book_format.proofs.Written.{book_of_bytes_of}
use Rattle.book_format.specs.Book.{book_of, bytes_of, count_of_trades, trades_of}
use Rattle.laws.proofs.Refusals.{append_yes, first_yes, first_zero, second_zero, yes_first}
use Rattle.laws.specs.Sound.{Sound}
use Rattle.log_format.proofs.Noted.{run_within_lem}
use Rattle.log_format.proofs.Read.{fits_facts, last_within}
use Rattle.log_format.proofs.Withdrawal.{withdrawn_moved, withdrawn_sound}
use Rattle.log_format.specs.Fits.{about_log, log_fits, log_number, raises_within}
use Rattle.log_format.specs.Log.{entries_in, entries_of, count_of_entries}
use Rattle.log_format.specs.Noted.{call_entered, emptying, has_entry, last_entry, lastly, room, run_within, withdrawal_entered}
use Rattle.log_format.specs.Withdrawal.{returned}
use Rattle.requests.specs.Request.{call, postings, withdrawal, Act, Lines, Outcome, Request, Setting, act_by, act_with, as_book, emptied_in, entered_in, limits_on, lines_in, logged_after, opening_in, opening_lines, opening_with_in, refused_given, request_given, request_in}
use Rattle.requests.specs.Request.{withdrawal_after}
use Rattle.rules.specs.Book.{Book, Trade}
use Rattle.rules.specs.Calls.{posting, morning_call_of, afternoon_call_of, reduction, run, Call, about, effect, answer_of_run}
use Rattle.rules.specs.Levels.{Limits}
use Rattle.rules.specs.Questions.{Question, after, first_of, refusal}
use Rattle.store.specs.Store.{store_number}
use Rattle.sequence.proofs.Acts.{Acted, Lined, Plain, act_accepted, act_law, act_refused, call_accepted, lines_law, list_accepted, list_no_run, logged_plain, number_plain, same_call, withdrawal_no_run}
use Rattle.sequence.proofs.Step.{effect_law}
use Rattle.sequence.specs.Links.{accepted_number}
use Rattle.sequence.specs.Totals.{amount_in, amounts_in, counted, counted_in}

-- ---- accepted

-- a run that ends is done, or met a full log
run_accepted : (limits : Limits) (b : Book) (log m : Option (List ℕ)) (n : ℕ) → Sound b
    → Acted limits b log (call run) (record { answer = (run_within limits n b).answer; numbers = []; book = (run_within limits n b).book; log = m })
unfolding accepted_number amounts_in counted_in amount_in counted
run_accepted limits b log m n s =
    let r = run_within limits n b in
    let q = run_within_lem limits n b s in
    act_accepted (call run) (record { answer = r.answer; numbers = []; book = r.book; log = m }) q.number q.sound q.moved (λ w. q.lowered) (λ d h. q.covered h)

-- a call that its own questions let pass
call_entered_lem : (limits : Limits) (b : Book) (log : Option (List ℕ)) (n : ℕ) (es : List (List ℕ)) (c : Call) → Sound b → refusal (about limits b c) ≡ 0
    → Acted limits b log (call c) (entered_in as_book (call_entered limits n es b c))
unfolding entered_in call_entered emptying
call_entered_lem limits b log n es (posting id area amount) s e = call_accepted (posting id area amount) (effect limits b (posting id area amount)) _ (effect_law limits b (posting id area amount) s e)
call_entered_lem limits b log n es (morning_call_of id) s e = call_accepted (morning_call_of id) (effect limits b (morning_call_of id)) _ (effect_law limits b (morning_call_of id) s e)
call_entered_lem limits b log n es (afternoon_call_of id) s e = call_accepted (afternoon_call_of id) (effect limits b (afternoon_call_of id)) _ (effect_law limits b (afternoon_call_of id) s e)
call_entered_lem limits b log n es (reduction id) s e = call_accepted (reduction id) (effect limits b (reduction id)) _ (effect_law limits b (reduction id) s e)
call_entered_lem limits b log n es run s e = run_accepted limits b log _ n s

-- the last entry of a log that passes question 19 and is not empty can be withdrawn
last_fits : (l : List ℕ) (b : Book) → Sound b → T (log_fits l (bytes_of b)) → T (ltb 0 (length (entries_of (bytes_of b) l))) → T (raises_within (last_entry (entries_of (bytes_of b) l)) b.trades)
unfolding entries_of book_of
last_fits l b s h k =
    let e : trades_of (bytes_of b) ≡ b.trades = ap (λ (n : Book). n.trades) (book_of_bytes_of b s) in
    subst (λ (ts : List Trade). T (raises_within (last_entry (entries_in (count_of_trades (bytes_of b)) (count_of_entries l) l)) ts)) e
    (last_within (count_of_trades (bytes_of b)) (count_of_entries l) l (trades_of (bytes_of b)) k (fits_facts l (bytes_of b) h).within)

withdrawal_entered_lem : (limits : Limits) (l : List ℕ) (b : Book) → Sound b → T (log_fits l (bytes_of b)) → T (ltb 0 (length (entries_of (bytes_of b) l)))
    → Acted limits b (some l) withdrawal (entered_in as_book (withdrawal_entered (entries_of (bytes_of b) l) b))
unfolding entered_in withdrawal_entered returned answer_of_run amounts_in counted_in accepted_number
withdrawal_entered_lem limits l b s h k =
    let cs = last_entry (entries_of (bytes_of b) l) in
    let w = last_fits l b s h k in
    act_accepted withdrawal (entered_in as_book (withdrawal_entered (entries_of (bytes_of b) l) b)) refl (withdrawn_sound b cs s w) (withdrawn_moved b cs s w) (λ n. absurd (n refl)) (λ d q. absurd (withdrawal_no_run d))

-- ---- the opening questions by their number

-- a log that 19 does not refuse fits the book,
pub log_fits_lem : (l s : List ℕ) → log_number (some l) s ≡ 0 → T (log_fits l s)
unfolding log_number about_log all
log_fits_lem l s e = (first_yes _ _ e tt).0

-- and one that fits is not refused
pub fits_number : (l s : List ℕ) → T (log_fits l s) → log_number (some l) s ≡ 0
unfolding log_number about_log refusal after
fits_number l s h = yes_first 19 (log_fits l s) [] h

-- where they are passed, the store and the log pass theirs
pub log_passed : (n : ℕ) (g : Setting) (l : List ℕ) (b : Book) → opening_with_in as_book n g (some l) b ≡ 0 → (store_number g.store b.header.date ≡ 0) × T (log_fits l (bytes_of b))
unfolding opening_with_in opening_in
log_passed n g l b e =
    let store = store_number g.store b.header.date in
    let log = log_number (some l) (bytes_of b) in
    (second_zero n store (first_zero (first_of n store) log e), log_fits_lem l (bytes_of b) (second_zero (first_of n store) log e))

-- ---- an act with a log

module _ (limits : Limits) (l : List ℕ) (b : Book) (s : Sound b) where
  -- a call after its opening questions
  call_logged : (c : Call) (n : ℕ) → Plain n → Acted limits b (some l) (call c) (logged_after as_book n limits l b c)
  unfolding logged_after after about lastly all
  call_logged c zero h = go (refusal own) refl
    where
      own : List Question
      own = about limits b c ++ lastly (room l) c

      go : (m : ℕ) → refusal own ≡ m
          → Acted limits b (some l) (call c) (after m (refused_given (some l) b) (entered_in as_book (call_entered limits (room l) (entries_of (bytes_of b) l) b c)))
      go zero e = call_entered_lem limits b (some l) (room l) (entries_of (bytes_of b) l) c s (append_yes (about limits b c) (lastly (room l) c) e).0
      go (suc m) e =
          act_refused (call c) (suc m) s (omega arith)
          (λ d. subst Plain (ap (λ (x : Call). refusal (about limits b x ++ lastly (room l) x)) (sym (same_call d)) ∙ e) (number_plain (about limits b run ++ lastly (room l) run) tt))
  call_logged c (suc n) h = act_refused (call c) (suc n) s (omega arith) (λ d. h)

  list_logged : (v : Lines) (r : Outcome Book) → Lined b v.areas v.amounts r → (n : ℕ) → Acted limits b (some l) (postings v) (after n (refused_given (some l) b) (emptied_in as_book r))
  unfolding after emptied_in
  list_logged v r k zero = list_accepted v r _ k
  list_logged v r k (suc n) = act_refused (postings v) (suc n) s (omega arith) (λ d. absurd (list_no_run d))

  withdrawal_logged : (n : ℕ) → (n ≡ 0 → T (log_fits l (bytes_of b))) → Acted limits b (some l) withdrawal (withdrawal_after as_book n l b)
  unfolding withdrawal_after after has_entry all
  withdrawal_logged zero h = go (refusal (has_entry es ∷ [])) refl
    where
      es : List (List ℕ)
      es = entries_of (bytes_of b) l

      go : (m : ℕ) → refusal (has_entry es ∷ []) ≡ m → Acted limits b (some l) withdrawal (after m (refused_given (some l) b) (entered_in as_book (withdrawal_entered es b)))
      go zero e = withdrawal_entered_lem limits l b s (h refl) (first_yes _ _ e tt).0
      go (suc m) e = act_refused withdrawal (suc m) s (omega arith) (λ d. absurd (withdrawal_no_run d))
  withdrawal_logged (suc n) h = act_refused withdrawal (suc n) s (omega arith) (λ d. absurd (withdrawal_no_run d))

-- a request, with a log or none
pub request_law : (r : Request) (b : Book) → Sound b → Acted (limits_on r.setting b) b r.log r.act (request_given r b)
unfolding request_in act_by act_with
request_law r b s = go r.setting r.log r.act
  where
    n : ℕ
    n = as_book.number b

    go : (g : Setting) (log : Option (List ℕ)) (a : Act) → Acted (limits_on g b) b log a (act_by as_book n g log b a)
    go g none a = act_law g b a s
    go g (some l) (call c) = call_logged (limits_on g b) l b s c (opening_with_in as_book n g (some l) b) (logged_plain g b s l)
    go g (some l) (postings v) =
        list_logged (limits_on g b) l b s v (lines_in as_book g b v.ids v.areas v.amounts) (lines_law g b v.ids v.areas v.amounts s)
        (opening_with_in as_book (opening_lines n v) g (some l) b)
    go g (some l) withdrawal = withdrawal_logged (limits_on g b) l b s (opening_with_in as_book n g (some l) b) (λ e. (log_passed n g l b e).1)
