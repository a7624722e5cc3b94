-- What is left of a run: added to the totals so far it is the whole run. What can still be cut bounds the totals. Nobody before a place is due. Assumes nothing.
use Rattle.base.specs.Basics.{◌≡◌, sym, ap, ◌∙◌, Bool, false, ◌&&◌, none, some, List, ℕ, ◌+◌, ◌*◌, ◌≤◌, ◌<◌, arith, ltb, length, get_or, lt-ltb, le-ltb}
use Rattle.base.proofs.{Linear.by_order, Tests.and_l, Tests.by_case, Tests.holds}
use Rattle.laws.proofs.Fuel.{cuttable_most, reduced_less, reduced_by-mwh, reduced_by-worth, run_answer, run_goes_on, run_stops}
use Rattle.laws.proofs.Run.{has_target}
use Rattle.laws.specs.Sound.{Sound}
use Rattle.rules.specs.{Book.Book, Book.User, Levels.Limits, Levels.short_of_cover, Reduction.Tally, Reduction.has_eligible, Reduction.target}
use Rattle.rules.specs.Calls.{Answer, Result, cuttable, next_reduced, answer_of_cuts, answer_of_run, only, onward, reduced}
use Rattle.run_state.specs.{Asked.member_at, Going.OwedOf, Going.owed, Running.NextFrom, Running.whole_run}
use Rattle.laws_sales.proofs.Next.{next_ready, next_over}
use Rattle.laws_sales.specs.Cover.{due, Dues}

-- ---- who is next

-- a target is above 0 where the user is due
owed_some : (limits : Limits) (b : Book) (u : User) → ltb 0 (owed limits b u) ≡ due limits b u
unfolding due
owed_some limits b u =
    by_case (short_of_cover limits b u && has_eligible b u)
    (λ e. rw e (lt-ltb 0 (target limits b u) (has_target limits b u (and_l (short_of_cover limits b u) (has_eligible b u) (holds e)))))
    (λ e. rw e)

module _ {limits : Limits} {b : Book} {ts : List ℕ} {es : List Bool} (w : OwedOf limits b ts es) where
  dues_of : Dues limits b (λ i. ltb 0 (get_or ts i 0))
  dues_of = record { each = λ i k. ap (ltb 0) (w.target_at i k) ∙ owed_some limits b (member_at b i) }

  module _ {place : ℕ} (before : (j : ℕ) → j < place → get_or ts j 0 ≡ 0) where
    none_before : (j : ℕ) → j < place → ltb 0 (get_or ts j 0) ≡ false
    none_before j k = le-ltb 0 (get_or ts j 0) (omega (arith, before j k))

    -- the user at the place is reduced next
    pub next_here : place < length b.users → 0 < get_or ts place 0 → next_reduced limits b b.users ≡ some (member_at b place)
    next_here l h = next_ready dues_of place l none_before (lt-ltb 0 (get_or ts place 0) h)

    -- nobody is
    pub next_nobody : length b.users ≤ place → next_reduced limits b b.users ≡ none
    next_nobody l = next_over dues_of (λ j k. none_before j (omega arith))

-- ---- the search for the next place

-- nobody from `least` up to a place has a target
module _ (ts : List ℕ) (least : ℕ) where
  pub record NoneTo (n i : ℕ) : Type 0 where
    pub within : i ≤ n
    pub none : (j : ℕ) → least ≤ j → j < i → get_or ts j 0 ≡ 0

  module _ {n : ℕ} where
    pub none_start : least ≤ n → NoneTo n least
    none_start h = record { within = h; none = λ j k l. absurd (omega arith) }

    pub none_found : {i : ℕ} → NoneTo n i → 0 < get_or ts i 0 → NextFrom ts least n i
    none_found p h = record { within = p.within; before = p.none; here = λ k. h }

    pub none_more : {i : ℕ} → i < n → NoneTo n i → get_or ts i 0 ≤ 0 → NoneTo n (i + 1)
    none_more {i} l p h =
        record {
          within = omega arith;
          none = λ j k m. by_order j i (λ x. p.none j k x) (λ x. let z : j ≡ i = omega arith in ap (λ (r : ℕ). get_or ts r 0) z ∙ (let y : get_or ts i 0 ≡ 0 = omega arith in y));
        }

    pub none_end : {i : ℕ} → n ≤ i → NoneTo n i → NextFrom ts least n i
    none_end h p = record { within = p.within; before = p.none; here = λ k. absurd (omega arith) }

-- ---- the whole run

-- totals so far, with those of what is left
unfoldable pub continued : ℕ → ℕ → ℕ → Result Book → Result Book
continued r m w rest =
    record { answer = answer_of_run (r + rest.answer.reductions) (m + rest.answer.mwh) (w + rest.answer.worth); book = rest.book }

-- results of equal totals and one book
pub same_totals : {x y z k m n : ℕ} (b : Book) → x ≡ k → y ≡ m → z ≡ n → ◌≡◌ {A = Result Book} (record { answer = answer_of_run x y z; book = b }) (record { answer = answer_of_run k m n; book = b })
same_totals b e f g = rw (e, f, g)

-- a run of the book o has come to b, with totals r, m and w: they and what is left of b are its whole run, and each is bounded by what can no longer be cut
pub record Left (limits : Limits) (o b : Book) (r m w : ℕ) : Type 0 where
  pub whole : continued r m w (whole_run limits b) ≡ whole_run limits o
  pub reductions_most : r + cuttable b.trades ≤ 25600000
  pub mwh_most : m + cuttable b.trades ≤ 25600000
  pub worth_most : w + 100000 * cuttable b.trades ≤ 2560000000000

module _ (limits : Limits) where
  -- before the first reduction
  pub left_start : (b : Book) → Sound b → Left limits b b 0 0 0
  unfolding continued answer_of_run
  left_start b s =
      let most = cuttable_most b s in
      record {
        whole = same_totals (whole_run limits b).book (omega arith) (omega arith) (omega arith)
            ∙ ap (λ (z : Answer). record { answer = z; book = (whole_run limits b).book }) (sym (run_answer limits (cuttable b.trades) b));
        reductions_most = omega arith;
        mwh_most = omega arith;
        worth_most = omega arith;
      }

  module _ {o b : Book} {r m w : ℕ} (s : Sound b) (p : Left limits o b r m w) where
    module _ (u : User) (next : next_reduced limits b b.users ≡ some u) where
      -- there is something to cut
      pub left_more : r < 25600000
      left_more = omega (arith, p.reductions_most, reduced_less limits b u s next)

      module _ (tally : Tally) (answer : (reduced limits b u).answer ≡ answer_of_cuts (target limits b u) tally) where
        mwh_is : (reduced limits b u).answer.mwh ≡ tally.mwh
        unfolding answer_of_cuts
        mwh_is = ap (λ (z : Answer). z.mwh) answer

        worth_is : (reduced limits b u).answer.worth ≡ tally.worth
        unfolding answer_of_cuts
        worth_is = ap (λ (z : Answer). z.worth) answer

        -- the tally is that of a book
        pub tally_within : (tally.mwh ≤ 25600000) × (tally.worth ≤ 2560000000000)
        unfolding reduced
        tally_within =
            let mwh = reduced_by-mwh b u (target limits b u) in
            let worth = reduced_by-worth b u (target limits b u) s in
            let most = cuttable_most b s in
            (omega (arith, mwh_is), omega (arith, mwh_is, worth_is))

        -- after one more reduction
        pub left_turn : Left limits o (reduced limits b u).book (r + 1) (m + tally.mwh) (w + tally.worth)
        unfolding continued onward answer_of_run reduced
        left_turn =
            let first = reduced limits b u in
            let rest = whole_run limits first.book in
            let less = reduced_less limits b u s next in
            let mwh = reduced_by-mwh b u (target limits b u) in
            let worth = reduced_by-worth b u (target limits b u) s in
            record {
              whole = same_totals rest.book (omega arith) (omega (arith, mwh_is)) (omega (arith, worth_is)) ∙ ap (continued r m w) (sym (run_goes_on limits b u s next)) ∙ p.whole;
              reductions_most = omega (arith, less, p.reductions_most);
              mwh_most = omega (arith, mwh, mwh_is, p.mwh_most);
              worth_most = omega (arith, mwh, worth, mwh_is, worth_is, p.worth_most);
            }

    -- nobody is to be reduced
    pub left_end : next_reduced limits b b.users ≡ none → (answer_of_run r m w ≡ (whole_run limits o).answer) × (b ≡ (whole_run limits o).book)
    unfolding continued only answer_of_run
    left_end none-next =
        let e : continued r m w (record { answer = only 0; book = b }) ≡ whole_run limits o
        = ap (continued r m w) (sym (run_stops limits (cuttable b.trades) b none-next)) ∙ p.whole in
        let g : ◌≡◌ {A = Result Book} (record { answer = answer_of_run r m w; book = b }) (whole_run limits o) = same_totals b (omega arith) (omega arith) (omega arith) ∙ e in
        (ap (λ (x : Result Book). x.answer) g, ap (λ (x : Result Book). x.book) g)
