-- A run, reduction after reduction: the array of cuts is cleared, the next place is searched, and what is left of the run, added to the totals so far, is the whole run. Assumes nothing.
use Rattle.base.specs.Basics.{◌≡◌, refl, sym, ap, subst, ◌∙◌, Bool, none, some, List, ℕ, ◌+◌, ◌≤◌, ◌<◌, arith, length, get_or, set, replicate}
use Rattle.base.specs.Basics.{length-set, length-replicate, get_or-replicate, get_or-eq_default, get_or-set_other}
use Rattle.cut_peaks.specs.Peaks.{NoneCut}
use Rattle.cut_worth.specs.Tallies.{as_tally}
use Rattle.cut_worth.specs.Totals.{Within, totals}
use Rattle.cut_worth.specs.declared.Tally.{Tally}
use Rattle.cut_worth.specs.declared.Totals.{Totals}
use Rattle.book_format.proofs.Passed.{length-users_of}
use Rattle.book_format.specs.Book.{book_of, count_of_users}
use Rattle.base.proofs.Linear.{by_order}
use Rattle.laws.specs.Sound.{Sound}
use Rattle.laws.specs.Trades.{Lowered, Pairwise}
use Rattle.rules.specs.Book.{Book}
use Rattle.rules.specs.Calls.{Answer, next_reduced, answer_of_run, reduced}
use Rattle.rules.specs.Levels.{Limits}
use Rattle.run_state.proofs.Left.{left_end, left_more, left_start, left_turn, next_here, next_nobody, tally_within}
use Rattle.base.proofs.Stores.{set_front}
use Rattle.run_state.proofs.Stays.{stays, users_many}
use Rattle.run_state.specs.Asked.{member_at}
use Rattle.laws_sales.specs.Borne.{borne_book}
use Rattle.run_state.specs.Going.{Going, StandingIn}
use Rattle.run_state.specs.Running.{NextFrom, whole_run}
use Rattle.run_turns.specs.Turns.{CutIn, Ongoing, Ran, RunTo, Turned}

-- ---- cuts are cleared

-- those up to i are
pub record ClearedTo (from to : ℕ) (cs : List ℕ) (i : ℕ) : Type 0 where
  pub above : from ≤ i
  pub room : length cs ≡ 256
  pub before : (k : ℕ) → k < i → get_or cs k 0 ≡ 0
  pub behind : (k : ℕ) → to ≤ k → get_or cs k 0 ≡ 0

module _ {from to : ℕ} where
  pub cleared_start : {cs : List ℕ} → CutIn from to cs → ClearedTo from to cs from
  cleared_start p = record { above = omega arith; room = p.room; before = p.before; behind = p.behind }

  pub cleared_more : {cs : List ℕ} {i : ℕ} → i < to → to ≤ 256 → ClearedTo from to cs i → ClearedTo from to (set cs i 0) (i + 1)
  cleared_more {cs} {i} h few p =
      record {
        above = omega (arith, p.above);
        room = length-set cs i 0 ∙ p.room;
        before = set_front (λ k x. x ≡ 0) cs i 0 0 (omega (arith, p.room)) refl p.before;
        behind = λ k l. get_or-set_other cs i k 0 0 (λ z. omega arith) ∙ p.behind k l;
      }

  pub cleared_end : {cs : List ℕ} {i : ℕ} → to ≤ i → ClearedTo from to cs i → NoneCut cs
  cleared_end {cs} {i} h p = record { room = p.room; none = λ k. by_order k i (λ l. p.before k l) (λ l. p.behind k (omega arith)) }

-- an array of cuts at the start
pub none_cuts : NoneCut (replicate 256 0)
none_cuts =
    record {
      room = length-replicate {A = ℕ} 256 0;
      none = λ k.
          by_order k 256 (λ h. get_or-replicate {A = ℕ} 256 k 0 0 h) (λ h. get_or-eq_default (replicate 256 0) 0 {n = k} (omega (arith, length-replicate {A = ℕ} 256 0)));
    }

-- ---- the run

module _ {limits : Limits} {s : List ℕ} {n : ℕ} (many : n ≡ count_of_users s) (sound : Sound (book_of s)) where
  -- before the first reduction
  unfoldable pub run_start : {ns ps ts : List ℕ} {es : List Bool} {cs rs : List ℕ} {t : Totals} {place : ℕ} → Going limits (book_of s) (book_of s) ns ps ts es → NoneCut cs → length rs ≡ 256
      → totals t ≡ answer_of_run 0 0 0 → NextFrom ts 0 n place → RunTo limits s n ns ps ts es cs rs t place
  unfolding answer_of_run
  run_start {t = t} h c r e p =
      let x : t.reductions ≡ 0 = ap (λ (z : Answer). z.reductions) e in
      let y : t.mwh.0 ≡ 0 = ap (λ (z : Answer). z.mwh) e in
      let w : t.worth.0 ≡ 0 = ap (λ (z : Answer). z.worth) e in
      record {
        book = book_of s;
        going = h;
        left = rw (x, y, w) (left_start limits (book_of s) sound);
        none_cut = c;
        rests_room = r;
        within = p.within;
        before = λ j l. p.before j (omega arith) l;
        here = p.here;
      }

  module _ {ns ps ts : List ℕ} {es : List Bool} {cs rs : List ℕ} {t : Totals} {place : ℕ} (p : RunTo limits s n ns ps ts es cs rs t place) where
    pub members : length p.book.users ≡ n
    unfolding book_of
    members = users_many (stays (book_of s) p.book sound p.going.lowered p.going.same) ∙ length-users_of s ∙ sym many

    pub run_ongoing : Ongoing limits (book_of s) ns ps ts es
    run_ongoing = record { book = p.book; going = p.going }

    pub run_within_lem : Within t
    run_within_lem = record { reductions_most = omega (arith, p.left.reductions_most); mwh_most = omega (arith, p.left.mwh_most); worth_most = omega (arith, p.left.worth_most) }

    module _ (k : place < n) where
      pub next : next_reduced limits p.book p.book.users ≡ some (member_at p.book place)
      next = next_here p.going.owed p.before (omega (arith, members)) (p.here k)

      -- there is something to cut
      pub run_more : t.reductions < 25600000
      run_more = left_more limits p.going.sound p.left (member_at p.book place) next

      module _ {ms qs us : List ℕ} {ds : List Bool} {xs : List ℕ} {tally : Tally} {least : ℕ} (turn : Turned limits (book_of s) p.book place ts ms qs us ds xs tally least) where
        pub turn_within : (tally.mwh.0 ≤ 25600000) × (tally.worth.0 ≤ 2560000000000)
        turn_within = tally_within limits p.going.sound p.left (member_at p.book place) next (as_tally tally) turn.answer

        -- after one more reduction
        unfoldable pub run_turn : {cs' rs' : List ℕ} {u : Totals} {place' : ℕ} → NoneCut cs' → length rs' ≡ 256
            → totals u ≡ answer_of_run (t.reductions + 1) (t.mwh.0 + tally.mwh.0) (t.worth.0 + tally.worth.0) → NextFrom us least n place' → RunTo limits s n ms qs us ds cs' rs' u place'
        unfolding answer_of_run
        run_turn {u = u} c r e w =
            let x : u.reductions ≡ t.reductions + 1 = ap (λ (z : Answer). z.reductions) e in
            let y : u.mwh.0 ≡ t.mwh.0 + tally.mwh.0 = ap (λ (z : Answer). z.mwh) e in
            let v : u.worth.0 ≡ t.worth.0 + tally.worth.0 = ap (λ (z : Answer). z.worth) e in
            record {
              book = (reduced limits p.book (member_at p.book place)).book;
              going = turn.going;
              left = rw (x, y, v) (left_turn limits p.going.sound p.left (member_at p.book place) next (as_tally tally) turn.answer);
              none_cut = c;
              rests_room = r;
              within = w.within;
              before = λ j l. by_order j least (λ m. turn.before j m ∙ p.before j (omega (arith, turn.least_most))) (λ m. w.before j m l);
              here = w.here;
            }

    -- nobody is due
    pub run_end : n ≤ place → Ran (whole_run limits (book_of s)) (book_of s) ns t
    run_end k =
        let over : next_reduced limits p.book p.book.users ≡ none = next_nobody p.going.owed p.before (omega (arith, members)) in
        let e = left_end limits p.going.sound p.left over in
        let b = e.1 in
        record {
          answer = e.0;
          sound = subst Sound b p.going.sound;
          lowered = rw b at p.going.lowered;
          same = rw b at p.going.same;
          borne = subst (λ (x : Book). Pairwise Lowered (borne_book (book_of s)).trades (borne_book x).trades) b p.going.borne;
          standing = subst (λ (x : Book). StandingIn (borne_book (book_of s)) (borne_book x) ns) b p.going.standing;
          room = p.going.rooms.standing;
        }
