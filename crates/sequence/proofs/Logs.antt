-- The log theorem, as specs/Logs.antt states it: a sequence that starts a log and writes it keeps what it notes, and each withdrawal is accepted and takes one step back. Assumes nothing.
use Rattle.base.specs.Basics.{◌≡◌, ◌∙◌, ap, ap₂, refl, subst, sym, Bool, true, false, cond, Option, none, some, List, [], ◌∷◌, ℕ, suc, ◌<◌}
use Rattle.base.specs.Basics.{arith, T, lt→ltb, ltb, length}
use Rattle.base.proofs.Tests.{and_i, and_l, and_r, eqb_of}
use Rattle.base.specs.Lists.{all}
use Rattle.book_format.proofs.Passed.{passed}
use Rattle.book_format.proofs.Round.{bytes_of_book_of}
use Rattle.book_format.proofs.Written.{book_of_bytes_of}
use Rattle.book_format.specs.Book.{book_of, bytes_of}
use Rattle.book_format.specs.Questions.{book_number}
use Rattle.fields.specs.Field.{AllBytes}
use Rattle.laws.proofs.Refusals.{yes_first}
use Rattle.laws.specs.Sound.{Sound}
use Rattle.log_format.proofs.Noted.{Noted, noted_none, noted_sound, start}
use Rattle.log_format.specs.Fits.{log_number, start_fits, start_number, started}
use Rattle.log_format.specs.Log.{entries_of, log_bytes}
use Rattle.log_format.specs.Noted.{before_last, has_entry, last_entry, withdrawal_entered}
use Rattle.log_format.specs.Withdrawal.{returned, withdrawn}
use Rattle.requests.specs.Request.{call, postings, withdrawal, Act, Outcome, Setting, act_by, act_with, as_book, entered_in, opening_in, opening_with_in, request_given, request_in, setting_of, withdrawal_after}
use Rattle.rules.specs.Book.{Book}
use Rattle.rules.specs.Calls.{Answer, answer_of_run}
use Rattle.rules.specs.Questions.{after, first_of, refusal}
use Rattle.requests.specs.Logged.{lent_log}
use Rattle.store.specs.Store.{store_number}
use Rattle.sequence.proofs.Acts.{book_number_lem}
use Rattle.sequence.proofs.Entered.{fits_number}
use Rattle.sequence.proofs.Sequence.{Left, left_of}
use Rattle.sequence.proofs.Traced.{Traced, act_traced, act_logged, same_setting, traced_count, traced_entries, traced_fits, traced_held, withdrawal_leads}
use Rattle.sequence.specs.Links.{Link, Linked, accepted_number, ended, is_accepted, then}
use Rattle.sequence.specs.Logs.{Back, Handed, LogBack, Written, begun, beside, handed, is_withdrawal, kept, since, written}

-- ---- a sequence that writes the log

-- a link that is given the log
record Gave (g : Setting) (l : List ℕ) (k : Link) : Type 0 where
  answer : k.gave.answer ≡ (act_logged g l (book_of k.given) k.asked.act).answer
  bytes : k.gave.book ≡ bytes_of (act_logged g l (book_of k.given) k.asked.act).book
  log : k.gave.log ≡ (act_logged g l (book_of k.given) k.asked.act).log
  sound : Sound (act_logged g l (book_of k.given) k.asked.act).book
  header : (act_logged g l (book_of k.given) k.asked.act).book.header ≡ (book_of k.given).header

gave_log : {store : Option (List ℕ)} {l : List ℕ} (k : Link) → k.asked.setting.store ≡ store → k.asked.log ≡ some l → Left k → Gave (setting_of store) l k
unfolding request_in act_by
gave_log {store} {l} k st e d =
    let b = book_of k.given in
    let a = k.asked.act in
    let r : request_given k.asked b ≡ act_logged (setting_of store) l b a = λ i. act_by as_book (as_book.number b) (record { store = st i }) (e i) b a in
    record {
      answer = d.answer ∙ ap (λ (x : Outcome Book). x.answer) r;
      bytes = d.bytes ∙ ap (λ (x : Outcome Book). bytes_of x.book) r;
      log = d.log ∙ ap (λ (x : Outcome Book). x.log) r;
      sound = subst (λ (x : Outcome Book). Sound x.book) r d.acted.sound;
      header = sym (ap (λ (x : Outcome Book). x.book.header) r) ∙ d.acted.moved.header;
    }

written_traced : {store : Option (List ℕ)} {s t l m o : List ℕ} {ks : List Link} → AllBytes s → book_number s ≡ 0 → Linked store s ks t → (w : Written l ks m) → Traced (setting_of store) o l
    → Traced (setting_of store) (since o w) m
unfolding since
written_traced b h ended begun t = t
written_traced {store} {s} b h (then {l = k} g st c ns lg rest) (written {n = n} e f w) t =
    let d = left_of k (subst (λ (x : List ℕ). AllBytes x) (sym g) b) (ap book_number g ∙ h) c ns lg in
    let v = gave_log k st e d in
    written_traced d.all_bytes d.number rest w
    (act_traced t (book_of k.given) (passed k.given (ap book_number g ∙ h)).sound k.asked.act v.sound v.header (sym v.log ∙ f))
written_traced b h (then {l = k} g st c ns lg rest) (beside w) t =
    let d = left_of k (subst (λ (x : List ℕ). AllBytes x) (sym g) b) (ap book_number g ∙ h) c ns lg in
    written_traced d.all_bytes d.number rest w t

-- the bytes at the end are those of an accepted book
ends : {store : Option (List ℕ)} {s t : List ℕ} {ks : List Link} → Linked store s ks t → AllBytes s → book_number s ≡ 0 → AllBytes t × (book_number t ≡ 0)
ends ended b h = (b, h)
ends (then {l = k} g st c ns lg rest) b h =
    let d = left_of k (subst (λ (x : List ℕ). AllBytes x) (sym g) b) (ap book_number g ∙ h) c ns lg in
    ends rest d.all_bytes d.number

-- ---- withdrawals

is_withdrawal_lem : (a : Act) → T (is_withdrawal a) → a ≡ withdrawal
unfolding is_withdrawal
is_withdrawal_lem (call c) h = absurd h
is_withdrawal_lem (postings v) h = absurd h
is_withdrawal_lem withdrawal h = refl

-- of a log with an entry: it is accepted and takes one step back
module _ {g : Setting} {o l : List ℕ} (t : Traced g o l) (k : 0 < length t.entries) where
  abbrev back : Book
  back = withdrawn t.held (last_entry t.entries)

  -- no question refuses it
  opened : opening_with_in as_book (as_book.number t.held) g (some l) t.held ≡ 0
  unfolding opening_with_in opening_in after
  opened =
      let s = bytes_of t.held in
      ap (λ (n : ℕ). first_of (first_of n (store_number g.store t.held.header.date)) (log_number (some l) s)) (book_number_lem g t.held (noted_sound t.notes))
      ∙ ap (λ (n : ℕ). first_of n (log_number (some l) s)) (t.passes k)
      ∙ fits_number l s (traced_fits t)

  has_entry_lem : refusal (has_entry (entries_of (bytes_of t.held) l) ∷ []) ≡ 0
  unfolding has_entry refusal after
  has_entry_lem =
      let es = entries_of (bytes_of t.held) l in
      yes_first 18 (ltb 0 (length es)) [] (lt→ltb 0 (length es) (subst (λ (x : List (List ℕ)). 0 < length x) (sym (traced_entries t)) k))

  -- what it gives
  withdrawal_gives : act_logged g l t.held withdrawal ≡ entered_in as_book (withdrawal_entered t.entries t.held)
  unfolding act_with withdrawal_after after
  withdrawal_gives = rw (opened, has_entry_lem) (ap (λ (x : List (List ℕ)). entered_in as_book (withdrawal_entered x t.held)) (traced_entries t))

  -- the log that it leaves
  back_traced : back.header ≡ t.held.header → Traced g o (log_bytes (before_last t.entries) (bytes_of back))
  back_traced h =
      let d = withdrawal_leads t.entries t.notes (lt→ltb 0 (length t.entries) k) in
      record {
        first = t.first;
        held = back;
        entries = before_last t.entries;
        since = t.since;
        log = refl;
        notes = d.0;
        count = omega (arith, d.1, t.count);
        passes = λ n. same_setting g t.held back h (t.passes k);
      }

shorter : (es : List (List ℕ)) (n : ℕ) → length es ≡ suc n → n ≡ length (before_last es)
unfolding before_last
shorter [] n e = absurd (omega arith)
shorter (cs ∷ es) n e = omega arith

-- as many withdrawals as entries lead back to the first book
withdrawn_all : {store : Option (List ℕ)} {o s u l n : List ℕ} {ws : List Link} → AllBytes s → book_number s ≡ 0 → Linked store s ws u → Handed l ws n → T (all (λ k. is_withdrawal k.asked.act) ws)
    → (t : Traced (setting_of store) o l) → s ≡ bytes_of t.held → length ws ≡ length t.entries → Back o ws u n
unfolding all is_accepted accepted_number entered_in withdrawal_entered returned answer_of_run lent_log back_traced
withdrawn_all {o = o} {s = s} {l = l} b h ended kept a t e z =
    record { accepted = tt; none = traced_count t ∙ sym z; bytes = e ∙ ap bytes_of (noted_none (subst (λ (x : List (List ℕ)). Noted t.first x t.held) (no_entry t.entries (sym z)) t.notes)) ∙ sym t.since }
  where
    no_entry : (es : List (List ℕ)) → length es ≡ 0 → es ≡ []
    no_entry [] q = refl
    no_entry (cs ∷ es) q = absurd (omega arith)
withdrawn_all {store} {o} {s} {u} {l} {n} b h (then {l = k} {ls = ws} g st c ns lg rest) (handed {n = m} f q r) a t e z =
    let w : length t.entries ≡ suc (length ws) = sym z in
    let i : 0 < length t.entries = omega arith in
    let d = left_of k (subst (λ (x : List ℕ). AllBytes x) (sym g) b) (ap book_number g ∙ h) c ns lg in
    let v = gave_log k st f d in
    let own : book_of k.given ≡ t.held = ap book_of (g ∙ e) ∙ book_of_bytes_of t.held (noted_sound t.notes) in
    let act : k.asked.act ≡ withdrawal = is_withdrawal_lem k.asked.act (and_l (is_withdrawal k.asked.act) (all (λ x. is_withdrawal x.asked.act) ws) a) in
    let gives : act_logged (setting_of store) l (book_of k.given) k.asked.act ≡ entered_in as_book (withdrawal_entered t.entries t.held)
    = ap₂ (λ (x : Book) (y : Act). act_logged (setting_of store) l x y) own act ∙ withdrawal_gives t i in
    let header : (back t i).header ≡ t.held.header = sym (ap (λ (x : Outcome Book). x.book.header) gives) ∙ v.header ∙ ap (λ (x : Book). x.header) own in
    let left : m ≡ log_bytes (before_last t.entries) (bytes_of (back t i))
    = ap (λ (x : Option (List ℕ)). lent_log x []) (sym q ∙ v.log ∙ ap (λ (x : Outcome Book). x.log) gives) in
    let number : k.gave.answer.number ≡ 0 = ap (λ (x : Answer). x.number) (v.answer ∙ ap (λ (x : Outcome Book). x.answer) gives) in
    let rests = withdrawn_all d.all_bytes d.number rest (subst (λ (x : List ℕ). Handed x ws n) left r) (and_r (is_withdrawal k.asked.act) (all (λ x. is_withdrawal x.asked.act) ws) a)
    (back_traced t i header) (v.bytes ∙ ap (λ (x : Outcome Book). bytes_of x.book) gives) (shorter t.entries (length ws) w) in
    record {
      accepted = and_i (is_accepted k) (all is_accepted ws) (subst (λ (x : Act). T (accepted_number x k.gave.answer.number)) (sym act) (eqb_of k.gave.answer.number 0 number)) rests.accepted;
      none = rests.none;
      bytes = rests.bytes;
    }

-- ---- the theorem

-- a log that is started notes nothing
start_traced : (g : Setting) (lent s : List ℕ) → AllBytes s → book_number s ≡ 0 → start_number lent s ≡ 0 → Traced g s (started lent s)
unfolding start_number started
start_traced g lent s b h = go (start_fits lent s)
  where
    own : s ≡ bytes_of (book_of s)
    own = sym (bytes_of_book_of s b (passed s h))

    go : (c : Bool) → cond {A = ℕ} c 0 19 ≡ 0 → Traced g s (cond c (log_bytes [] s) lent)
    go true e =
        record {
          first = book_of s;
          held = book_of s;
          entries = [];
          since = own;
          log = ap (log_bytes []) own;
          notes = start (passed s h).sound;
          count = omega arith;
          passes = λ n. absurd (omega arith);
        }
    go false e = absurd (omega arith)

pub log_back : (store : Option (List ℕ)) → LogBack store
log_back store =
    record {
      back = λ lent {s} {t} {u} {m} {n} {ks} {ws} b h st k w e r d a z.
          let p = written_traced b h k w (start_traced (setting_of store) lent s b h st) in
          let q = ends k b h in
          withdrawn_all q.0 q.1 r d a p (e ∙ traced_held p) (z ∙ traced_count p);
    }
