-- The withdrawal of the last entry: its cuts as a lent part has them, and what the call gives. Assumes nothing.
use Rattle.base.specs.Basics.{◌≡◌, refl, sym, ap, ap₂, subst, ◌∙◌, some, List, [], ◌∷◌, ℕ, zero, suc, ◌+◌, ◌-◌, ◌*◌, ◌≤◌, ◌<◌, arith, T, length, take}
use Rattle.base.specs.Basics.{drop, take-take, lt-ltb}
use Rattle.base.proofs.Linear.{by_order}
use Rattle.book_format.specs.Book.{book_of, count_of_trades, trades_of}
use Rattle.book_format.specs.Held.{HeldAs}
use Rattle.cut_worth.specs.Tallies.{as_tally}
use Rattle.cut_worth.specs.declared.Tally.{Tally}
use Rattle.fields.proofs.Records.{length-records_of, mul-suc_front}
use Rattle.fields.proofs.Sets.{take_of_drop}
use Rattle.fields.specs.Field.{AllBytes, field}
use Rattle.fields.specs.Layout.{records_of}
use Rattle.log_entries.proofs.Entries.{entry_dropped, log_sealed}
use Rattle.log_entries.proofs.Fitting.{fitting_entries}
use Rattle.log_entries.specs.Entries.{EntriesIn, cleared, sealed}
use Rattle.log_format.proofs.Raises.{raises_first}
use Rattle.log_format.proofs.Read.{fits_facts, length_all_cuts, length_entries_in}
use Rattle.log_format.specs.Fits.{all_cuts, log_fits, raises_within}
use Rattle.log_format.specs.Log.{cuts_at, entries_in, entries_of, entry_at, count_of_entries, entry_size, log_bytes}
use Rattle.log_format.specs.Noted.{before_last, has_entry, last_entry, withdrawal_entered}
use Rattle.log_format.specs.Withdrawal.{returned, withdrawn, withdrawn_tally}
use Rattle.log_questions.specs.Form.{cuts_from}
use Rattle.requests.specs.Logged.{GivesLogged}
use Rattle.requests.specs.Request.{Outcome, as_bytes, entered_in, refused_given, withdrawal_after}
use Rattle.rules.specs.Areas.{Prices}
use Rattle.rules.specs.Calls.{Answer, answer_of_run, only}
use Rattle.rules.specs.Questions.{after, refusal}
use Rattle.rules.specs.Reduction.{nothing, tally_all}

-- ---- refused

pub withdrawal_refused : (s l : List ℕ) (n : ℕ) → (n ≡ 0 → ⊥) → {a : Answer} → a ≡ only n → GivesLogged (withdrawal_after as_bytes n l s) a s l
unfolding withdrawal_after after refused_given
withdrawal_refused s l zero h e = absurd (h refl)
withdrawal_refused s l (suc n) h e = record { answer = e; bytes = refl; log = refl }

-- there is no entry
no_entries : (s l : List ℕ) → count_of_entries l ≡ 0 → entries_of s l ≡ []
unfolding entries_of entries_in
no_entries s l e = ap (λ (k : ℕ). entries_in (count_of_trades s) k l) e

empty_refused : (s l : List ℕ) {n : ℕ} → n ≡ 0 → count_of_entries l ≡ 0 → withdrawal_after as_bytes n l s ≡ refused_given (some l) s 18
unfolding withdrawal_after after has_entry refusal
empty_refused s l z e = rw (z, no_entries s l e)

pub withdrawal_none : (s l : List ℕ) {n : ℕ} → n ≡ 0 → count_of_entries l ≡ 0 → {a : Answer} → a ≡ only 18 → GivesLogged (withdrawal_after as_bytes n l s) a s l
unfolding refused_given
withdrawal_none s l {n} z e {a} f = subst (λ (o : Outcome (List ℕ)). GivesLogged o a s l) (sym (empty_refused s l z e)) (record { answer = f; bytes = refl; log = refl })

-- some number above 0
pub some_left : {n : ℕ} → (n ≡ 0 → ⊥) → 1 ≤ n
some_left {n} h = by_order n 1 (λ l. absurd (h (omega arith))) (λ l. l)

-- ---- the last entry

-- records at the front of bytes
records_front : {R : Type 0} (len : ℕ) (one : List ℕ → R) (n k : ℕ) (s : List ℕ) → len * n ≤ k → records_of len one n (take k s) ≡ records_of len one n s
unfolding records_of
records_front len one zero k s h = refl
records_front {R} len one (suc n) k s h =
    let m = mul-suc_front len n in
    let room : len + (k - len) ≡ k = omega (arith, m) in
    ap₂ (λ (x : R) (xs : List R). x ∷ xs) (ap one (take-take len k s (omega (arith, m))))
    (ap (records_of len one n) (ap (λ (i : ℕ). drop len (take i s)) (sym room) ∙ sym (take_of_drop len (k - len) s)) ∙ records_front len one n (k - len) (drop len s) (omega (arith, m)))

module _ (l s : List ℕ) (b : AllBytes l) (few : count_of_trades s ≤ 256) (h : T (log_fits l s)) (place : ℕ) (e : count_of_entries l ≡ suc place) where
  abbrev cuts : List ℕ
  cuts = cuts_at (count_of_trades s) l place

  abbrev others : List (List ℕ)
  others = entries_in (count_of_trades s) place l

  entries_are : entries_of s l ≡ cuts_at (count_of_trades s) l place ∷ entries_in (count_of_trades s) place l
  unfolding entries_of entries_in
  entries_are = ap (λ (k : ℕ). entries_in (count_of_trades s) k l) e

  pub place_low : place < 256
  place_low = omega (arith, e, (fits_facts l s h).count)

  -- as the lent part has it
  pub part_cuts : {from m : ℕ} → from ≡ entry_at place → m ≡ count_of_trades s → cuts_from m 0 (take ((from + 1024) - from) (drop from l)) ≡ cuts_at (count_of_trades s) l place
  unfolding cuts_at
  part_cuts {from} {m} f k =
      let long : (from + 1024) - from ≡ 1024 = omega arith in
      ap₂ (λ (i : ℕ) (x : List ℕ). records_of 4 (field 4 0) i x) k (ap₂ (λ (i j : ℕ). take i (drop j l)) long f)
      ∙ records_front 4 (field 4 0) (count_of_trades s) 1024 (drop (entry_at place) l) (omega arith)

  -- a cut for each trade
  cuts_many : length (cuts_at (count_of_trades s) l place) ≡ count_of_trades s
  unfolding cuts_at
  cuts_many = length-records_of 4 (field 4 0) (count_of_trades s) (drop (entry_at place) l)

  -- it can be given back
  last_within : T (raises_within (cuts_at (count_of_trades s) l place) (trades_of s))
  unfolding all_cuts
  last_within =
      raises_first cuts (all_cuts (count_of_trades s) others) (trades_of s) (length_all_cuts (count_of_trades s) l place ∙ sym cuts_many)
      (subst (λ (es : List (List ℕ)). T (raises_within (all_cuts (count_of_trades s) es) (trades_of s))) entries_are (fits_facts l s h).within)

  pub part_within : {from m : ℕ} → from ≡ entry_at place → m ≡ count_of_trades s → T (raises_within (cuts_from m 0 (take ((from + 1024) - from) (drop from l))) (book_of s).trades)
  unfolding book_of
  part_within f k = subst (λ (cs : List ℕ). T (raises_within cs (trades_of s))) (sym (part_cuts f k)) last_within

  passed : withdrawal_after as_bytes 0 l s ≡ entered_in as_bytes (record { answer = returned (book_of s) (cuts_at (count_of_trades s) l place); book = withdrawn (book_of s) (cuts_at (count_of_trades s) l place); entries = entries_in (count_of_trades s) place l })
  unfolding withdrawal_after after has_entry refusal withdrawal_entered last_entry before_last
  passed = rw (entries_are, lt-ltb 0 (suc (length others)) (omega arith))

  -- what the call gives
  pub withdrawal_gives : {from m : ℕ} → from ≡ entry_at place → m ≡ count_of_trades s → {f : Prices} → f ≡ (book_of s).header.prices → {t l' n : List ℕ} {y : Tally}
      → as_tally y ≡ tally_all f (cuts_from m 0 (take ((from + 1024) - from) (drop from l))) (book_of s).trades nothing
      → HeldAs (withdrawn (book_of s) (cuts_from m 0 (take ((from + 1024) - from) (drop from l)))) t
      → l' ≡ cleared (entry_at place) entry_size l → n ≡ sealed place t l' → {a : Answer} → a ≡ answer_of_run 0 y.mwh.0 y.worth.0
      → GivesLogged (withdrawal_after as_bytes 0 l s) a t n
  unfolding entered_in returned withdrawn_tally
  withdrawal_gives fr k {f} p {t} {l'} {n} {y} ty hd c sl {a} an =
      let same = part_cuts fr k in
      let long : length others ≡ place = length_entries_in (count_of_trades s) place l in
      let have : EntriesIn (count_of_trades s) (cuts ∷ others) l = subst (λ (es : List (List ℕ)). EntriesIn (count_of_trades s) es l) entries_are (fitting_entries l s b few h) in
      let left = entry_dropped few have (omega (arith, long, place_low)) (c ∙ ap (λ (i : ℕ). cleared (entry_at i) entry_size l) (sym long)) in
      let held : HeldAs (withdrawn (book_of s) cuts) t = subst (λ (cs : List ℕ). HeldAs (withdrawn (book_of s) cs) t) same hd in
      let tally : as_tally y ≡ tally_all (book_of s).header.prices cuts (book_of s).trades nothing
      = ty ∙ ap₂ (λ (g : Prices) (cs : List ℕ). tally_all g cs (book_of s).trades nothing) p same in
      let o = sym passed in
      record {
        answer = an ∙ ap (λ x. answer_of_run 0 x.mwh x.worth) tally ∙ ap (λ (x : Outcome (List ℕ)). x.answer) o;
        bytes = held.bytes ∙ ap (λ (x : Outcome (List ℕ)). x.book) o;
        log = ap some (log_sealed t left (sym long) sl ∙ ap (log_bytes others) held.bytes) ∙ ap (λ (x : Outcome (List ℕ)). x.log) o;
      }
