-- A run with a log, reduction after reduction: what is left of it, with the totals and the entries so far, is the run of as many reductions as the log has room for. Assumes nothing.
use Rattle.base.specs.Basics.{◌≡◌, refl, sym, ap, subst, ◌∙◌, Bool, true, false, none, some, List, ◌∷◌, ℕ, suc, ◌+◌, ◌-◌, ◌≤◌, ◌<◌, arith, length}
use Rattle.base.specs.Basics.{get_or, length-sets}
use Rattle.cut_peaks.specs.Peaks.{NoneCut}
use Rattle.cut_worth.specs.Tallies.{as_tally}
use Rattle.cut_worth.specs.Totals.{totals}
use Rattle.cut_worth.specs.declared.Tally.{Tally}
use Rattle.cut_worth.specs.declared.Totals.{Totals}
use Rattle.base.proofs.Linear.{by_order}
use Rattle.book_format.proofs.Passed.{length-trades_of}
use Rattle.book_format.specs.Book.{book_of, count_of_users}
use Rattle.laws.proofs.Fuel.{run_answer}
use Rattle.laws.proofs.Settle.{pairs_length}
use Rattle.laws.proofs.Trades.{framed}
use Rattle.laws.specs.Sound.{Sound}
use Rattle.laws.specs.Trades.{Lowered, Pairwise}
use Rattle.laws_sales.proofs.Own.{own_sales_lem}
use Rattle.laws_sales.proofs.Standing.{places_stay}
use Rattle.laws_sales.specs.Borne.{borne_book, borne_user}
use Rattle.laws_sales.specs.Groups.{places}
use Rattle.laws_sales.specs.Parts.{part}
use Rattle.laws_sales.specs.Reduced.{own_cuts}
use Rattle.rules.specs.Areas.{Prices}
use Rattle.rules.specs.Book.{Book, Party, User}
use Rattle.rules.specs.Calls.{Answer, Result, next_reduced, answer_of_run, run_for}
use Rattle.rules.specs.Levels.{Limits}
use Rattle.rules.specs.Reduction.{target}
use Rattle.run_state.proofs.Left.{continued, next_nobody, same_totals}
use Rattle.base.proofs.Tests.{by_case}
use Rattle.risk_user.proofs.Borne.{members_borne, party_borne}
use Rattle.run_state.proofs.Stays.{Alike, Stays, alike_borne, party_stays, stays, users_many}
use Rattle.run_state.specs.Asked.{member_at}
use Rattle.run_state.specs.Going.{Going, StandingIn}
use Rattle.run_state.specs.Running.{NextFrom}
use Rattle.run_reduction.proofs.Steps.{cut_within_lem, part_few, part_rises, sales_in}
use Rattle.run_reduction.specs.Reductions.{RunOf}
use Rattle.run_turns.proofs.Turning.{reached_now}
use Rattle.run_turns.proofs.Rounds.{members, next, run_start, run_turn}
use Rattle.run_turns.specs.Turns.{RunTo, Turned}
use Rattle.log_format.specs.Noted.{entry_of, noted}
use Rattle.log_entries.proofs.Reductions.{reduction_entered}
use Rattle.log_entries.specs.Entries.{EntriesIn, Notable, NotedAt}
use Rattle.run_noted.proofs.Budget.{budget_spent, budget_stops, budget_turn, noted_spent, noted_stops, noted_turn}
use Rattle.run_noted.specs.Noted.{NotedBy, OriginsIn}

-- ---- the entry of a reduction

-- the cuts that a turn leaves can be noted
module _ {limits : Limits} {f : Prices} {s sums ss area_codes bs : List ℕ} (q : RunOf limits f s sums ss area_codes bs) where
  pub few_trades : length (book_of s).trades ≤ 256
  unfolding book_of
  few_trades = omega (arith, length-trades_of s, q.risk.opened.accepted.held.form.trades)

  pub cuts_notable : {place : ℕ} (inside : place < count_of_users s) {b : Book} {ns ps ts : List ℕ} {es : List Bool} → Going limits (book_of s) b ns ps ts es → {origins ws : List ℕ}
      → OriginsIn (borne_book (book_of s)) ss origins → length ws ≡ 256
      → part (get_or ss place 0) (get_or ss (place + 1) 0) ws ≡ own_cuts (borne_book b) (borne_user b.users (member_at b place)) (target limits b (member_at b place))
      → Notable origins ws (get_or ss place 0) (get_or ss (place + 1) 0)
  cuts_notable {place} inside {b} h {origins} {ws} at room own =
      let now = reached_now h in
      record {
        rising = part_rises q inside;
        few = part_few q inside;
        origins_room = at.room;
        cuts_room = room;
        small = λ k l m. omega (arith, cut_within_lem q inside now (target limits b (member_at b place)) ws own k l m, (sales_in q inside now).standing_most k l m);
      }

pub room_left : {have : ℕ} → have ≤ 256 → (have ≡ 256 → ⊥) → have < 256
room_left {have} h n = by_order have 256 (λ l. l) (λ l. absurd (n (omega arith)))

-- ---- so far

-- the entries that a log has after some reductions, with those that are still to be noted
pub record EntriesNow (limits : Limits) (o b : Book) (count : ℕ) (es : List (List ℕ)) (log : List ℕ) (many : ℕ) : Type 0 where
  pub now : List (List ℕ)
  pub held : EntriesIn (length o.trades) now log
  pub long : length now ≡ many
  pub whole : noted limits (256 - many) b now ≡ noted limits (256 - count) o es

-- a run of the book in bytes s has come so far, with `many` entries in the log
pub record NotedTo (limits : Limits) (s : List ℕ) (n count : ℕ) (l₀ ns ps ts : List ℕ) (es : List Bool) (cs rs : List ℕ) (t : Totals) (place : ℕ) (log : List ℕ) (many : ℕ) : Type 0 where
  pub run : RunTo limits s n ns ps ts es cs rs t place
  pub few : many ≤ 256
  pub size : length log ≡ length l₀
  pub budget : continued t.reductions t.mwh.0 t.worth.0 (run_for limits (256 - many) run.book) ≡ run_for limits (256 - count) (book_of s)
  pub entries : (xs : List (List ℕ)) → EntriesIn (length (book_of s).trades) xs l₀ → length xs ≡ count → EntriesNow limits (book_of s) run.book count xs log many

module _ {limits : Limits} {s : List ℕ} {n count : ℕ} {l₀ : List ℕ} (many : n ≡ count_of_users s) (sound : Sound (book_of s)) where
  -- before the first reduction
  pub noted_start : {ns ps ts : List ℕ} {es : List Bool} {cs rs : List ℕ} {t : Totals} {place : ℕ} → Going limits (book_of s) (book_of s) ns ps ts es → NoneCut cs → length rs ≡ 256
      → totals t ≡ answer_of_run 0 0 0 → NextFrom ts 0 n place → count ≤ 256 → NotedTo limits s n count l₀ ns ps ts es cs rs t place l₀ count
  unfolding run_start continued answer_of_run
  noted_start {t = t} h c r e p few =
      let x : t.reductions ≡ 0 = ap (λ (z : Answer). z.reductions) e in
      let y : t.mwh.0 ≡ 0 = ap (λ (z : Answer). z.mwh) e in
      let w : t.worth.0 ≡ 0 = ap (λ (z : Answer). z.worth) e in
      record {
        run = run_start many sound h c r e p;
        few = few;
        size = refl;
        budget = rw (x, y, w)
            (same_totals (run_for limits (256 - count) (book_of s)).book (omega arith) (omega arith) (omega arith)
            ∙ ap (λ (z : Answer). record { answer = z; book = (run_for limits (256 - count) (book_of s)).book }) (sym (run_answer limits (256 - count) (book_of s))));
        entries = λ xs k m. record { now = xs; held = k; long = m; whole = refl };
      }

  module _ {ns ps ts : List ℕ} {es : List Bool} {cs rs : List ℕ} {t : Totals} {place : ℕ} {log : List ℕ} {have : ℕ}
      (p : NotedTo limits s n count l₀ ns ps ts es cs rs t place log have) where
    abbrev b : Book
    b = p.run.book

    -- there are as many trades as at the beginning
    trades_many : length p.run.book.trades ≡ length (book_of s).trades
    trades_many = pairs_length (framed p.run.going.lowered)

    stays_now : Stays (book_of s) p.run.book
    stays_now = stays (book_of s) p.run.book sound p.run.going.lowered p.run.going.same

    -- as the risk is borne
    alike_now : Alike (borne_book (book_of s)) (borne_book p.run.book)
    alike_now = alike_borne stays_now (framed p.run.going.borne)

    module _ (k : place < n) (room : have < 256) (few : length (book_of s).trades ≤ 256) {ss origins : List ℕ} (at : OriginsIn (borne_book (book_of s)) ss origins) where
      abbrev user : User
      user = member_at p.run.book place

      abbrev from : ℕ
      from = get_or ss place 0

      abbrev to : ℕ
      to = get_or ss (place + 1) 0

      -- where the user's own sales stand
      own_places : part (get_or ss place 0) (get_or ss (place + 1) 0) origins ≡ places (borne_book p.run.book).trades (member_at p.run.book place).party.id
      own_places =
          at.each place (omega (arith, k, members many sound p.run, users_many stays_now, members_borne (book_of s)))
          ∙ ap (λ (q : Party). places (borne_book (book_of s)).trades q.id) (sym (party_stays alike_now place) ∙ party_borne p.run.book place)
          ∙ sym (places_stay own_sales_lem user.party.id alike_now.framed)

      module _ {ms qs us : List ℕ} {ds : List Bool} {ws : List ℕ} {tally : Tally} {least : ℕ}
          (turn : Turned limits (book_of s) p.run.book place ts ms qs us ds (part (get_or ss place 0) (get_or ss (place + 1) 0) ws) tally least)
          {log' : List ℕ} (noted_at : NotedAt have origins ws (get_or ss place 0) (get_or ss (place + 1) 0) log log') where
        -- the entry
        entry_now : {now : List (List ℕ)} → EntriesIn (length (book_of s).trades) now log → length now ≡ have → EntriesIn (length (book_of s).trades) (entry_of limits p.run.book user ∷ now) log'
        unfolding entry_of
        entry_now {now} h e =
            subst (λ (m : ℕ). EntriesIn m (entry_of limits p.run.book user ∷ now) log') trades_many
            (reduction_entered p.run.book user (target limits p.run.book user) p.run.going.sound (omega (arith, few, trades_many))
            (subst (λ (m : ℕ). EntriesIn m now log) (sym trades_many) h) e room own_places turn.cuts noted_at)

        pub noted_more : {cs' rs' : List ℕ} {u : Totals} {place' : ℕ} → NoneCut cs' → length rs' ≡ 256
            → totals u ≡ answer_of_run (t.reductions + 1) (t.mwh.0 + tally.mwh.0) (t.worth.0 + tally.worth.0) → NextFrom us least n place'
            → NotedTo limits s n count l₀ ms qs us ds cs' rs' u place' log' (have + 1)
        unfolding run_turn answer_of_run
        noted_more {u = u} c r e w =
            let x : u.reductions ≡ t.reductions + 1 = ap (λ (z : Answer). z.reductions) e in
            let y : u.mwh.0 ≡ t.mwh.0 + tally.mwh.0 = ap (λ (z : Answer). z.mwh) e in
            let v : u.worth.0 ≡ t.worth.0 + tally.worth.0 = ap (λ (z : Answer). z.worth) e in
            let due = next many sound p.run k in
            let fewer : 256 - have ≡ suc (256 - (have + 1)) = omega arith in
            record {
              run = run_turn many sound p.run k turn c r e w;
              few = omega arith;
              size = ap length noted_at.bytes ∙ length-sets log _ noted_at.entry ∙ p.size;
              budget = rw (x, y, v) (sym (budget_turn limits p.run.book user due (256 - have) (256 - (have + 1)) fewer t.reductions t.mwh.0 t.worth.0 (as_tally tally) turn.answer) ∙ p.budget);
              entries = λ xs h m.
                  let z = p.entries xs h m in
                  record {
                    now = entry_of limits p.run.book user ∷ z.now;
                    held = entry_now z.held z.long;
                    long = omega (arith, z.long);
                    whole = sym (noted_turn limits p.run.book user due (256 - have) (256 - (have + 1)) fewer z.now) ∙ z.whole;
                  };
            }

    -- nobody is due, or the log is full
    pub noted_end : (due : Bool) → (due ≡ false → n ≤ place) → (due ≡ true → (place < n) × (have ≡ 256)) → NotedBy limits (book_of s) count l₀ log ns t have due
    noted_end due rest more =
        let w : Result Book = record { answer = answer_of_run t.reductions t.mwh.0 t.worth.0; book = b } in
        let nobody_next : due ≡ false → next_reduced limits b b.users ≡ none = λ f. next_nobody p.run.going.owed p.run.before (omega (arith, rest f, members many sound p.run)) in
        let none_left : due ≡ true → 256 - have ≡ 0 = λ y. omega (arith, (more y).1) in
        let end : w ≡ run_for limits (256 - count) (book_of s) =
        by_case due
        (λ y. sym (budget_spent limits b (256 - have) t.reductions t.mwh.0 t.worth.0 (none_left y)) ∙ p.budget)
        (λ f. sym (budget_stops limits b (256 - have) t.reductions t.mwh.0 t.worth.0 (nobody_next f)) ∙ p.budget) in
        let e : b ≡ (run_for limits (256 - count) (book_of s)).book = ap (λ (x : Result Book). x.book) end in
        record {
          ran = record {
            answer = ap (λ (x : Result Book). x.answer) end;
            sound = subst Sound e p.run.going.sound;
            lowered = rw e at p.run.going.lowered;
            same = rw e at p.run.going.same;
            borne = subst (λ (x : Book). Pairwise Lowered (borne_book (book_of s)).trades (borne_book x).trades) e p.run.going.borne;
            standing = subst (λ (x : Book). StandingIn (borne_book (book_of s)) (borne_book x) ns) e p.run.going.standing;
            room = p.run.going.rooms.standing;
          };
          rest = λ f. subst (λ (x : Book). next_reduced limits x x.users ≡ none) e (nobody_next f);
          next = member_at b place;
          more = λ y. subst (λ (x : Book). next_reduced limits x x.users ≡ some (member_at b place)) e (next many sound p.run (more y).0);
          size = p.size;
          few = p.few;
          entries = λ xs h m.
              let z = p.entries xs h m in
              let all : z.now ≡ noted limits (256 - count) (book_of s) xs
              = by_case due
              (λ y. sym (noted_spent limits b (256 - have) z.now (none_left y)) ∙ z.whole)
              (λ f. sym (noted_stops limits b (256 - have) z.now (nobody_next f)) ∙ z.whole) in
              (subst (λ (ys : List (List ℕ)). EntriesIn (length (book_of s).trades) ys log) all z.held, sym z.long ∙ ap length all);
        }
