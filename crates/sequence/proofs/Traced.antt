-- What a log notes that was started empty and written by requests: the cuts that led from the book that it held when it was last without an entry to the one that it holds. Every request keeps it
-- so. Assumes nothing.
use Rattle.base.specs.Basics.{◌≡◌, ◌∙◌, ap, refl, subst, sym, cond, Option, some, List, [], ◌∷◌, ◌++◌, ℕ, suc, zero, ◌+◌, ◌≤◌, ◌<◌, arith, T, eqb}
use Rattle.base.specs.Basics.{eqb-suc-zero, leb, leb→le, ltb, ltb→lt, length}
use Rattle.base.proofs.Tests.{and_l, and_r}
use Rattle.book_format.proofs.Offsets.{header_range, length_by_lem, size_most}
use Rattle.book_format.proofs.Passed.{length-trades_of, passed}
use Rattle.book_format.proofs.Written.{book_of_bytes_of, length_bytes_of, written_number}
use Rattle.book_format.specs.Book.{book_of, bytes_of, count_of_trades, trades_of}
use Rattle.fields.specs.Layout.{Every}
use Rattle.laws.proofs.Refusals.{append_yes, first_yes}
use Rattle.laws.specs.Sound.{Sound}
use Rattle.log_format.proofs.Main.{runs_within}
use Rattle.log_format.proofs.Noted.{Noted, noted_drop, noted_fit, noted_sound, noted_within, reduction_noted, run_noted, start}
use Rattle.log_format.proofs.Parts.{EntryFits, bytes_logged, logged_head, logged_held}
use Rattle.log_format.proofs.Read.{fits_facts}
use Rattle.log_format.proofs.Written.{Writable, logged_entries, logged_fits}
use Rattle.log_format.specs.Fits.{LogOf, all_cuts, log_fits, raises_within}
use Rattle.log_format.specs.Log.{entries_of, count_of_entries, held_of, log_bytes}
use Rattle.log_format.specs.Noted.{Entered, before_last, call_entered, emptying, has_entry, has_room, last_entry, lastly, room, run_within, withdrawal_entered}
use Rattle.log_format.specs.Withdrawal.{withdrawn}
use Rattle.requests.specs.Request.{call, postings, withdrawal, Act, Lines, Outcome, Setting, act_with, as_book, emptied_in, entered_in, limits_on, lines_in, logged_after, opening_lines, opening_with_in, refused_given, withdrawal_after}
use Rattle.rules.specs.Book.{Book, Header, Trade, find}
use Rattle.rules.specs.Calls.{posting, morning_call_of, afternoon_call_of, reduction, run, Call, about, effect}
use Rattle.rules.specs.Levels.{Limits}
use Rattle.rules.specs.Questions.{Question, after, counts_are_valid, refusal}
use Rattle.store.specs.Store.{store_number}
use Rattle.requests.specs.Logged.{lent_log}
use Rattle.sequence.proofs.Entered.{log_passed}
use Rattle.sequence.specs.Logs.{since, since_log}

-- ---- a log that can be read back

module _ (b : Book) (s : Sound b) where
  -- the longest book: 64 users of 68 bytes
  book_size : length (bytes_of b) ≤ 9512
  unfolding counts_are_valid
  book_size =
      let users : T (leb (length b.users) 64) = search (and_l, and_r) in
      let trades : T (leb (length b.trades) 256) = search (and_l, and_r) in
      let version = b.header.version in
      omega (
        arith,
        length_bytes_of b ∙ length_by_lem version (length b.users) (length b.trades),
        header_range version,
        size_most version (length b.users) 64 (leb→le (length b.users) 64 users),
        leb→le (length b.trades) 256 trades,
      )

  trade_count_lem : count_of_trades (bytes_of b) ≡ length b.trades
  unfolding book_of
  trade_count_lem = sym (length-trades_of (bytes_of b)) ∙ ap (λ (n : Book). length n.trades) (book_of_bytes_of b s)

noted_writable : {o : Book} {es : List (List ℕ)} {b : Book} → Noted o es b → length es ≤ 256 → Writable es (bytes_of b)
unfolding book_of
noted_writable {es = es} {b = b} p k =
    let s = noted_sound p in
    let e = sym (trade_count_lem b s) in
    let t : b.trades ≡ trades_of (bytes_of b) = sym (ap (λ (n : Book). n.trades) (book_of_bytes_of b s)) in
    record {
      size = book_size b s;
      count = k;
      trades = (passed (bytes_of b) (written_number b s)).form.trades;
      entries = subst (λ (m : ℕ). Every (EntryFits m) es) e (noted_fit p);
      within = subst (λ (ts : List Trade). T (raises_within (all_cuts (count_of_trades (bytes_of b)) es) ts)) t (subst (λ (m : ℕ). T (raises_within (all_cuts m es) b.trades)) e (noted_within p));
    }

-- ---- what a log notes

-- a log whose entries led from the book o to the book that it holds; where it has any, the store passes its questions
pub record Traced (g : Setting) (o : List ℕ) (l : List ℕ) : Type 0 where
  pub first : Book
  pub held : Book
  pub entries : List (List ℕ)
  pub since : o ≡ bytes_of first
  pub log : l ≡ log_bytes entries (bytes_of held)
  pub notes : Noted first entries held
  pub count : length entries ≤ 256
  pub passes : 0 < length entries → store_number g.store held.header.date ≡ 0

module _ {g : Setting} {o l : List ℕ} (t : Traced g o l) where
  writable : Writable t.entries (bytes_of t.held)
  writable = noted_writable t.notes t.count

  logged : LogOf t.entries (bytes_of t.held) l
  logged = subst (LogOf t.entries (bytes_of t.held)) (sym t.log) (bytes_logged t.entries (bytes_of t.held) writable.size)

  pub traced_fits : T (log_fits l (bytes_of t.held))
  traced_fits = logged_fits writable logged

  pub traced_entries : entries_of (bytes_of t.held) l ≡ t.entries
  traced_entries = logged_entries writable logged

  pub traced_count : count_of_entries l ≡ length t.entries
  traced_count = (logged_head writable.size t.count logged).count

  pub traced_held : held_of l ≡ bytes_of t.held
  traced_held = logged_held writable.size t.count logged

-- without an entry the book held is the one at the beginning, else it stays
since_traced : {g : Setting} {o l : List ℕ} (t : Traced g o l) (p : List ℕ) → (0 < length t.entries → o ≡ p) → Traced g (since_log l p) l
unfolding since_log
since_traced {g} {o} {l} t p h = subst (λ (n : ℕ). Traced g (cond (eqb n 0) (held_of l) p) l) (sym (traced_count t)) (go t.entries refl)
  where
    go : (es : List (List ℕ)) → t.entries ≡ es → Traced g (cond (eqb (length es) 0) (held_of l) p) l
    go [] e =
        record {
          first = t.held;
          held = t.held;
          entries = [];
          since = traced_held t;
          log = subst (λ (x : List (List ℕ)). l ≡ log_bytes x (bytes_of t.held)) e t.log;
          notes = start (noted_sound t.notes);
          count = omega arith;
          passes = λ k. absurd (omega arith);
        }
    go (cs ∷ es) e = rw (eqb-suc-zero (length es)) (subst (λ (x : List ℕ). Traced g x l) (h (subst (λ (x : List (List ℕ)). 0 < length x) (sym e) (omega arith))) t)

-- ---- one request

-- an act with a log on a book
abbrev pub act_logged : Setting → List ℕ → Book → Act → Outcome Book
act_logged g l b a = act_with as_book (as_book.number b) g l b a

-- the entries after a call: none, or those that led from the first book to the one that it leaves
data Leads (o : Book) (es : List (List ℕ)) (b : Book) : Type 0 where
  emptied : es ≡ [] → Leads o es b
  more : Noted o es b → Leads o es b

module _ (limits : Limits) {o : Book} {es : List (List ℕ)} {b : Book} (p : Noted o es b) (n : ℕ) (k : n + length es ≤ 256) where
  -- a call whose last questions are answered by yes
  call_leads : (c : Call) → refusal (lastly n c) ≡ 0 → let e = call_entered limits n es b c in Leads o e.entries e.book × (length e.entries ≤ 256)
  unfolding call_entered emptying effect run_within lastly has_room
  call_leads (posting id area amount) h = (emptied refl, omega arith)
  call_leads (morning_call_of id) h = (emptied refl, omega arith)
  call_leads (afternoon_call_of id) h = (emptied refl, omega arith)
  call_leads (reduction id) h = (more (reduction_noted limits (find b.users id) p), omega (arith, ltb→lt 0 n (first_yes _ _ h tt).0))
  call_leads run h = (more (run_noted limits n p), omega (arith, (runs_within limits).entries n b es, (runs_within limits).most n b))

-- a withdrawal drops the last entry
pub withdrawal_leads : {o : Book} (es : List (List ℕ)) {b : Book} → Noted o es b → T (ltb 0 (length es)) → Noted o (before_last es) (withdrawn b (last_entry es)) × (length (before_last es) ≤ length es)
unfolding before_last last_entry
withdrawal_leads [] p k = absurd k
withdrawal_leads (cs ∷ es) p k = (noted_drop p, omega arith)

-- two books of equal bytes are one
same_book : {b c : Book} → Sound b → Sound c → bytes_of b ≡ bytes_of c → b ≡ c
same_book {b} {c} s k e = sym (book_of_bytes_of b s) ∙ ap book_of e ∙ book_of_bytes_of c k

-- the store is asked on a date, which no request changes
pub same_setting : (g : Setting) (b c : Book) → c.header ≡ b.header → store_number g.store b.header.date ≡ 0 → store_number g.store c.header.date ≡ 0
same_setting g b c h e = subst (λ (x : Header). store_number g.store x.date ≡ 0) (sym h) e

-- what a log then notes
leads_traced : (g : Setting) {o : List ℕ} {first b : Book} {es : List (List ℕ)} → o ≡ bytes_of first → Leads first es b → Sound b → length es ≤ 256 → store_number g.store b.header.date ≡ 0
    → Traced g (since_log (log_bytes es (bytes_of b)) o) (log_bytes es (bytes_of b))
leads_traced g {o} {first} {b} {es} e (more p) s k h =
    since_traced (record { first = first; held = b; entries = es; since = e; log = refl; notes = p; count = k; passes = λ n. h }) o (λ n. refl)
leads_traced g {o} {first} {b} {es} e (emptied z) s k h =
    let t : Traced g (bytes_of b) (log_bytes es (bytes_of b))
    = record { first = b; held = b; entries = []; since = refl; log = ap (λ (x : List (List ℕ)). log_bytes x (bytes_of b)) z; notes = start s; count = omega arith; passes = λ n. h } in
    since_traced t o (λ n. absurd (omega arith))

module _ {g : Setting} {o l : List ℕ} (t : Traced g o l) (b : Book) (s : Sound b) where
  -- a log that passes question 19 for a book holds it
  fits_held : T (log_fits l (bytes_of b)) → t.held ≡ b
  fits_held h = same_book (noted_sound t.notes) s (sym (traced_held t) ∙ (fits_facts l (bytes_of b) h).held)

  -- so its entries led to this book
  fits_noted : T (log_fits l (bytes_of b)) → Noted t.first (entries_of (bytes_of b) l) b
  fits_noted h =
      let e = fits_held h in
      subst (λ (x : Book). Noted t.first (entries_of (bytes_of x) l) x) e (subst (λ (x : List (List ℕ)). Noted t.first x t.held) (sym (traced_entries t)) t.notes)

  fits_room : T (log_fits l (bytes_of b)) → room l + length (entries_of (bytes_of b) l) ≤ 256
  unfolding room
  fits_room h =
      let e : length (entries_of (bytes_of b) l) ≡ length t.entries = ap (λ (x : Book). length (entries_of (bytes_of x) l)) (sym (fits_held h)) ∙ ap length (traced_entries t) in
      omega (arith, e, traced_count t, t.count)

  -- a refused request leaves the log
  refused_traced : {n : List ℕ} → some l ≡ some n → Traced g (since_log n o) n
  unfolding lent_log
  refused_traced {n} e = subst (λ (x : List ℕ). Traced g (since_log x o) x) (ap (λ (x : Option (List ℕ)). lent_log x []) e) (since_traced t o (λ k. refl))

  -- an accepted one leaves the log of its entries
  entered_traced : {n : List ℕ} (es : List (List ℕ)) (c : Book) → Leads t.first es c → Sound c → length es ≤ 256 → c.header ≡ b.header → store_number g.store b.header.date ≡ 0
      → some (log_bytes es (bytes_of c)) ≡ some n → Traced g (since_log n o) n
  unfolding lent_log
  entered_traced {n} es c p k i h q e =
      subst (λ (x : List ℕ). Traced g (since_log x o) x) (ap (λ (x : Option (List ℕ)). lent_log x []) e) (leads_traced g t.since p k i (same_setting g b c h q))

  call_traced : {n : List ℕ} (c : Call) → Sound (act_logged g l b (call c)).book → (act_logged g l b (call c)).book.header ≡ b.header → (act_logged g l b (call c)).log ≡ some n → Traced g (since_log n o) n
  unfolding act_with logged_after after refused_given entered_in
  call_traced {n} c = go (opening_with_in as_book (as_book.number b) g (some l) b) refl
    where
      own : List Question
      own = about (limits_on g b) b c ++ lastly (room l) c

      e : Entered
      e = call_entered (limits_on g b) (room l) (entries_of (bytes_of b) l) b c

      by_own : (store_number g.store b.header.date ≡ 0) × T (log_fits l (bytes_of b)) → (x : ℕ) → refusal own ≡ x → let r = after x (refused_given (some l) b) (entered_in as_book e) in
          Sound r.book → r.book.header ≡ b.header → r.log ≡ some n → Traced g (since_log n o) n
      by_own w zero q k h i =
          let d = call_leads (limits_on g b) (fits_noted w.1) (room l) (fits_room w.1) c (append_yes (about (limits_on g b) b c) (lastly (room l) c) q).1 in
          entered_traced e.entries e.book d.0 k d.1 h w.0 i
      by_own w (suc m) q k h i = refused_traced i

      go : (x : ℕ) → opening_with_in as_book (as_book.number b) g (some l) b ≡ x → let r = logged_after as_book x (limits_on g b) l b c in
          Sound r.book → r.book.header ≡ b.header → r.log ≡ some n → Traced g (since_log n o) n
      go zero q k h i = by_own (log_passed (as_book.number b) g l b q) (refusal own) refl k h i
      go (suc m) q k h i = refused_traced i

  withdrawal_traced : {n : List ℕ} → Sound (act_logged g l b withdrawal).book → (act_logged g l b withdrawal).book.header ≡ b.header → (act_logged g l b withdrawal).log ≡ some n → Traced g (since_log n o) n
  unfolding act_with withdrawal_after after refused_given entered_in withdrawal_entered has_entry
  withdrawal_traced {n} = go (opening_with_in as_book (as_book.number b) g (some l) b) refl
    where
      es : List (List ℕ)
      es = entries_of (bytes_of b) l

      by_entry : (store_number g.store b.header.date ≡ 0) × T (log_fits l (bytes_of b)) → (x : ℕ) → refusal (has_entry es ∷ []) ≡ x → let r = after x (refused_given (some l) b) (entered_in as_book (withdrawal_entered es b)) in
          Sound r.book → r.book.header ≡ b.header → r.log ≡ some n → Traced g (since_log n o) n
      by_entry w zero q k h i =
          let d = withdrawal_leads es (fits_noted w.1) (first_yes _ _ q tt).0 in
          entered_traced (before_last es) (withdrawn b (last_entry es)) (more d.0) k (omega (arith, d.1, fits_room w.1)) h w.0 i
      by_entry w (suc m) q k h i = refused_traced i

      go : (x : ℕ) → opening_with_in as_book (as_book.number b) g (some l) b ≡ x → let r = withdrawal_after as_book x l b in
          Sound r.book → r.book.header ≡ b.header → r.log ≡ some n → Traced g (since_log n o) n
      go zero q k h i = by_entry (log_passed (as_book.number b) g l b q) (refusal (has_entry es ∷ [])) refl k h i
      go (suc m) q k h i = refused_traced i

  list_traced : {n : List ℕ} (v : Lines) → Sound (act_logged g l b (postings v)).book → (act_logged g l b (postings v)).book.header ≡ b.header → (act_logged g l b (postings v)).log ≡ some n → Traced g (since_log n o) n
  unfolding act_with after refused_given emptied_in
  list_traced {n} v = go (opening_with_in as_book opened g (some l) b) refl
    where
      opened : ℕ
      opened = opening_lines (as_book.number b) v

      y : Outcome Book
      y = lines_in as_book g b v.ids v.areas v.amounts

      go : (x : ℕ) → opening_with_in as_book opened g (some l) b ≡ x → let r = after x (refused_given (some l) b) (emptied_in as_book y) in
          Sound r.book → r.book.header ≡ b.header → r.log ≡ some n → Traced g (since_log n o) n
      go zero q k h i = entered_traced [] y.book (emptied refl) k (omega arith) h (log_passed opened g l b q).0 i
      go (suc m) q k h i = refused_traced i

  pub act_traced : {n : List ℕ} (a : Act) → Sound (act_logged g l b a).book → (act_logged g l b a).book.header ≡ b.header → (act_logged g l b a).log ≡ some n → Traced g (since_log n o) n
  act_traced (call c) = call_traced c
  act_traced (postings v) = list_traced v
  act_traced withdrawal = withdrawal_traced
