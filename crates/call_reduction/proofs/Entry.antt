-- The entry of a reduction in a lent log: the cuts of the user's own sales at the places of their trades are what each trade of the book loses; and the call with it. Assumes nothing.
use Rattle.base.specs.Basics.{◌≡◌, refl, sym, ap, subst, ◌∙◌, Bool, true, false, some, List, [], ◌∷◌, ◌++◌, append-nil, ℕ, zero, suc}
use Rattle.base.specs.Basics.{◌+◌, ◌-◌, ◌≤◌, arith, T, length, get_or, sets, ltb-true}
use Rattle.book_format.proofs.Passed.{length-trades_of}
use Rattle.book_format.specs.Book.{book_of, users_of}
use Rattle.book_format.specs.Steps.{in_bytes}
use Rattle.cut_lists.proofs.Own.{own_origins}
use Rattle.cut_tiers.specs.Tiers.{cuts_of}
use Rattle.fields.specs.Field.{AllBytes}
use Rattle.laws_sales.specs.Borne.{borne_book}
use Rattle.laws_sales.specs.Groups.{places}
use Rattle.laws_sales.specs.Parts.{part}
use Rattle.log_entries.proofs.Entries.{log_sealed}
use Rattle.log_entries.proofs.Fitting.{fitting_count, fitting_trades}
use Rattle.log_entries.proofs.Reductions.{reduction_entered}
use Rattle.log_format.proofs.Read.{fits_facts}
use Rattle.log_format.specs.Fits.{log_fits}
use Rattle.log_format.specs.Log.{entries_of, count_of_entries, log_bytes}
use Rattle.log_format.specs.Noted.{call_entered, entry_of, has_room, lastly, room}
use Rattle.log_lent.specs.Lent.{NotableIn, NotedLent, room_in}
use Rattle.requests.specs.Request.{Outcome, as_bytes, entered_in, logged_after, refused_given}
use Rattle.rules.specs.Areas.{Prices}
use Rattle.risk_user.proofs.Borne.{party_borne}
use Rattle.rules.specs.Book.{Party, User, find, nobody}
use Rattle.rules.specs.Calls.{Answer, Result, about, call_after, effect, answer_of_cuts, only, reduced, reduced_by, reduction, result_in, unchanged}
use Rattle.rules.specs.Levels.{Limits}
use Rattle.rules.specs.Questions.{Question, after, refusal}
use Rattle.rules.specs.Reduction.{cuts}
use Rattle.run_reduction.proofs.Steps.{cut_within_lem, cuts_own, cuts_room, part_few, part_rises, sales_in}
use Rattle.run_reduction.specs.Books.{Listed}
use Rattle.run_reduction.specs.Reductions.{short_in}
use Rattle.call_reduction.specs.Books.{UserOf, all_sales}
use Rattle.call_reduction.specs.Call.{Gives, room_asked}
use Rattle.call_reduction.specs.Log.{ReducedWith, noted_by}
use Rattle.call_reduction.proofs.Cuts.{inside_users, lost, user_reached, user_run}
use Rattle.call_reduction.proofs.Ways.{step_with}
use Rattle.laws.proofs.Refusals.{after_nonzero}

-- ---- what each trade loses

module _ {f : Prices} {s : List ℕ} {place : ℕ} {sellers buyers ps : List ℕ} (p : UserOf f s place sellers buyers ps) {ss origins ns area_codes bs : List ℕ}
    (l : Listed (borne_book (book_of s)) ss origins ns area_codes bs (all_sales (borne_book (book_of s)))) (last : List Question) (asked : ℕ) (cs cs₀ : List ℕ)
    (filled : cs ≡ sets cs₀ (get_or ss place 0) (cuts_of f (short_in ps place) asked (part (get_or ss place 0) (get_or ss (place + 1) 0) ns) (part (get_or ss place 0) (get_or ss (place + 1) 0) area_codes)))
    (long : length cs₀ ≡ 256) where
  abbrev u : User
  u = get_or (users_of s) place nobody

  abbrev from : ℕ
  from = get_or ss place 0

  abbrev to : ℕ
  to = get_or ss (place + 1) 0

  -- the cuts can be noted
  pub own_notable : {lent : Bool} {log t : List ℕ} → (lent ≡ true → T (log_fits log s)) → room_in lent log ≡ true → length t ≡ length s → lent ≡ true
      → NotableIn log t origins cs (get_or ss place 0) (get_or ss (place + 1) 0)
  unfolding room_in room book_of
  own_notable {lent} {log} {t} fits free same e =
      let facts = fits_facts log s (fits e) in
      let q = user_run p l in
      let h = user_reached p l in
      record {
        size = facts.size;
        free = omega (arith, ltb-true 0 (256 - count_of_entries log) (rw e at free));
        held = omega (arith, facts.room, same);
        listed = record {
          rising = part_rises q p.inside;
          few = part_few q p.inside;
          origins_room = l.room.origins_room;
          cuts_room = cuts_room q p.inside h asked cs cs₀ _ filled long (cuts_own q p.inside h asked);
          small = λ k x y. omega (arith, cut_within_lem q p.inside h asked cs (lost p l last asked cs cs₀ filled long) k x y, (sales_in q p.inside h).standing_most k x y);
        };
      }

  -- where the user's own sales stand
  own_places : part (get_or ss place 0) (get_or ss (place + 1) 0) origins ≡ places (borne_book (book_of s)).trades (get_or (users_of s) place nobody).party.id
  unfolding book_of
  own_places = own_origins l.sales place (inside_users p l) ∙ ap (λ (q : Party). places (borne_book (book_of s)).trades q.id) (party_borne (book_of s) place)

  few_trades : length (book_of s).trades ≤ 256
  unfolding book_of
  few_trades = omega (arith, length-trades_of s, p.book.accepted.held.form.trades)

  -- and are
  pub own_noted : (lent : Bool) {log t m : List ℕ} {n : ℕ} → AllBytes log → (lent ≡ true → T (log_fits log s)) → room_in lent log ≡ true
      → NotedLent lent log t origins cs (get_or ss place 0) (get_or ss (place + 1) 0) m → n ≡ 0
      → m ≡ noted_by lent n (cuts (book_of s) (get_or (users_of s) place nobody) asked) s t log
  unfolding noted_by after room_in room book_of users_of
  own_noted false b fits free noted z = noted.stays refl
  own_noted true {log} {t} {m} b fits free noted z =
      let few = p.book.accepted.held.form.trades in
      let count = fitting_count log s b few (fits refl) in
      let last_entry = noted.last refl in
      let more = reduction_entered (book_of s) u asked p.book.accepted.sound few_trades (fitting_trades log s b few (fits refl)) count (omega (arith, ltb-true 0 (256 - count_of_entries log) free))
      own_places (lost p l last asked cs cs₀ filled long) last_entry.entry in
      rw z (log_sealed t more (ap suc (sym count)) last_entry.whole)

-- a refused reduction leaves the log
pub noted_refused : (lent : Bool) (loss s t l : List ℕ) {n : ℕ} {a : Answer} → (n ≡ 0 → ⊥) → a ≡ only n → l ≡ noted_by lent a.number loss s t l
unfolding noted_by only
noted_refused false loss s t l h e = refl
noted_refused true loss s t l h e = rw e (sym (after_nonzero (λ i. l) (log_bytes (loss ∷ entries_of s l) t) h))

-- ---- the call

module _ (number : ℕ) (limits : Limits) (l s : List ℕ) (id : ℕ) where
  abbrev entry : List ℕ
  entry = entry_of limits (book_of s) (find (book_of s).users id)

  -- what it gives without a log, with the entry noted
  with_noted : Result (List ℕ) → Outcome (List ℕ)
  with_noted x = record { answer = x.answer; numbers = []; book = x.book; log = some (after x.answer.number (λ n. l) (log_bytes (entry ∷ entries_of s l) x.book)) }

  noted_asked : (n : ℕ)
      → after n (refused_given (some l) s) (entered_in as_bytes (call_entered limits (room l) (entries_of s l) (book_of s) (reduction id))) ≡ with_noted (after n (unchanged s) (result_in in_bytes (effect limits (book_of s) (reduction id))))
  unfolding after entered_in call_entered result_in refused_given unchanged with_noted only effect reduced reduced_by answer_of_cuts
  noted_asked zero = refl
  noted_asked (suc n) = refl

  noted_after : (n : ℕ) → logged_after as_bytes n limits l s (reduction id) ≡ with_noted (step_with (has_room (room l) ∷ []) n limits s id)
  unfolding logged_after step_with after refused_given unchanged with_noted only lastly
  noted_after (suc n) = refl
  noted_after zero = noted_asked (refusal (about limits (book_of s) (reduction id) ++ (has_room (room l) ∷ [])))

  step_without : (n : ℕ) → step_with [] n limits s id ≡ call_after in_bytes n limits s (reduction id)
  unfolding step_with call_after
  step_without n = rw (append-nil (about limits (book_of s) (reduction id)))

  pub reduced_with : (lent : Bool) {a : Answer} {t m : List ℕ} → Gives (step_with (room_asked lent l) number limits s id) a t
      → m ≡ noted_by lent a.number (entry_of limits (book_of s) (find (book_of s).users id)) s t l → ReducedWith lent number limits l s id a t m
  unfolding room_asked noted_by with_noted
  reduced_with false g h =
      let e = step_without number in
      record {
        without = λ x. record { answer = g.answer ∙ ap (λ (y : Result (List ℕ)). y.answer) e; bytes = g.bytes ∙ ap (λ (y : Result (List ℕ)). y.book) e };
        stays = λ x. h;
        within = λ x. absurd (subst T (sym x) tt);
      }
  reduced_with true {a} {t} g h =
      let e = sym (noted_after number) in
      let step = step_with (has_room (room l) ∷ []) number limits s id in
      record {
        without = λ x. absurd (subst T x tt);
        stays = λ x. absurd (subst T x tt);
        within = λ x. record {
          answer = g.answer ∙ ap (λ (o : Outcome (List ℕ)). o.answer) e;
          bytes = g.bytes ∙ ap (λ (o : Outcome (List ℕ)). o.book) e;
          log = ap some (h ∙ ap (λ (n : ℕ). after n (λ i. l) (log_bytes (entry ∷ entries_of s l) t)) (ap (λ (r : Answer). r.number) g.answer)
              ∙ ap (λ (y : List ℕ). after step.answer.number (λ i. l) (log_bytes (entry ∷ entries_of s l) y)) g.bytes) ∙ ap (λ (o : Outcome (List ℕ)). o.log) e;
        };
      }
