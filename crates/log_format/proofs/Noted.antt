-- What a log holds that was written by the calls: the cuts, newest first, that led from one book to another. Withdrawing them all gives the first book, and their sums pass question 19. Assumes nothing.
use Rattle.base.specs.Basics.{◌≡◌, refl, sym, ap, subst, true, ◌||◌, Option, none, some, List, [], ◌∷◌, ℕ, zero, suc, arith, T, eqb, ℤ, pos, length}
use Rattle.base.proofs.Tests.{and_l, and_r}
use Rattle.base.specs.Lists.{all}
use Rattle.fields.specs.Layout.{Every}
use Rattle.laws.proofs.{Cuts.cuts_within_by, Cuts.eligible_is, Reduction.cut_le, Reduction.cuts_lowered, Reduction.cuts_sound, Run.next_none, Run.run_law}
use Rattle.laws.proofs.{Main.cuts_eligible, Moved.Moved, Settle.pairs_length, Trades.framed, Bounds.standing_le}
use Rattle.laws.specs.{Sound.Sound, Statements.AllCovered, Trades.Lowered, Trades.Pairwise, Trades.cut_within, Trades.cuts_within}
use Rattle.rules.specs.Book.{Book, Trade, User, bilateral_for_day}
use Rattle.rules.specs.Calls.{posting, morning_call_of, afternoon_call_of, Call, Result, effect, guaranteed, next_reduced, of_level, only, onward, reduced, reduced_by}
use Rattle.rules.specs.Calls.{run_for}
use Rattle.rules.specs.{Levels.Limits, Reduction.cut_all, Reduction.cuts, Reduction.eligible, Reduction.target, Reduction.with_trades, Questions.trade_is_valid}
use Rattle.log_format.specs.{Fits.all_cuts, Fits.raises_within, Withdrawal.withdrawn}
use Rattle.log_format.specs.Noted.{call_entered, emptying, entry_of, lastly, noted, noting, run_within, stopped}
use Rattle.log_format.proofs.{Parts.EntryFits, Raises.cuts_raised, Raises.none_raised, Withdrawal.withdrawn_back}

-- from a book that stands at the beginning to the book after the cuts
pub data Noted (o : Book) : List (List ℕ) → Book → Type 0 where
  start : Sound o → Noted o [] o
  cut : {es : List (List ℕ)} {n : Book} (cs : List ℕ) → Noted o es n → Sound n → T (cuts_within bilateral_for_day cs n.trades) → Noted o (cs ∷ es) (with_trades n (cut_all cs n.trades))

-- the book after them is accepted
pub noted_sound : {o : Book} {es : List (List ℕ)} {b : Book} → Noted o es b → Sound b
noted_sound (start s) = s
noted_sound (cut {n = n} cs p s h) = cuts_sound n cs s h

-- the last entry withdrawn: the others led to the book that is left
pub noted_drop : {o : Book} {cs : List ℕ} {es : List (List ℕ)} {b : Book} → Noted o (cs ∷ es) b → Noted o es (withdrawn b cs)
noted_drop {o} {cs} {es} (cut {n = n} ds p s h) = subst (λ (m : Book). Noted o es m) (sym (withdrawn_back n cs s h)) p

-- without an entry the book is the one at the beginning
pub noted_none : {o b : Book} → Noted o [] b → b ≡ o
noted_none (start s) = refl

-- ---- what a reduction and a run note

-- cuts of eligible trades are cuts of trades of kind 0 and day 0
pub cuts_bilateral : (b : Book) (u : User) (asked : ℕ) → T (cuts_within bilateral_for_day (cuts b u asked) b.trades)
cuts_bilateral b u asked =
    cuts_within_by (eligible b u) bilateral_for_day (λ t h. (eligible_is b u t h).0) (cuts b u asked) b.trades (cuts_eligible.within b u asked)

module _ (limits : Limits) where
  pub reduction_noted : {o : Book} {es : List (List ℕ)} {b : Book} (u : User) → Noted o es b → Noted o (entry_of limits b u ∷ es) (reduced limits b u).book
  unfolding reduced reduced_by entry_of
  reduction_noted {b = b} u p = cut (cuts b u (target limits b u)) p (noted_sound p) (cuts_bilateral b u (target limits b u))

  pub run_noted : (n : ℕ) {o : Book} {es : List (List ℕ)} {b : Book} → Noted o es b → Noted o (noted limits n b es) (run_for limits n b).book
  unfolding noted run_for noting onward
  run_noted zero p = p
  run_noted (suc n) {o} {es} {b} p = go (next_reduced limits b b.users) (λ u. run_noted n (reduction_noted u p))
    where
      go : (next : Option User) → ((u : User) → Noted o (noted limits n (reduced limits b u).book (entry_of limits b u ∷ es)) (run_for limits n (reduced limits b u).book).book)
          → Noted o (noting limits b next (noted limits n) es) (onward limits b next (run_for limits n)).book
      go none rest = p
      go (some u) rest = rest u

-- ---- a run that a full log may stop

-- its cuts are kept and its totals are of them; where it returns 0 no user short of cover has an eligible trade
pub record RanWithin (limits : Limits) (b : Book) (r : Result Book) : Type 0 where
  pub sound : Sound r.book
  pub lowered : Pairwise Lowered b.trades r.book.trades
  pub moved : Moved b r.book (λ a. pos 0) (pos r.answer.mwh) (pos r.answer.worth)
  pub covered : r.answer.number ≡ 0 → AllCovered limits r.book
  pub number : (eqb r.answer.number 0 || eqb r.answer.number 20) ≡ true

pub run_within_lem : (limits : Limits) (n : ℕ) (b : Book) → Sound b → RanWithin limits b (run_within limits n b)
unfolding run_within stopped AllCovered
run_within_lem limits n b s = go (next_reduced limits r.book r.book.users) refl
  where
    r : Result Book
    r = run_for limits n b

    go : (o : Option User) → next_reduced limits r.book r.book.users ≡ o → RanWithin limits b (record { answer = stopped o r.answer; book = r.book })
    go none e =
        let q = run_law limits n b s in
        record { sound = q.sound; lowered = q.lowered; moved = q.moved; covered = λ z. next_none limits r.book r.book.users e; number = rw q.number }
    go (some u) e =
        let q = run_law limits n b s in
        record { sound = q.sound; lowered = q.lowered; moved = q.moved; covered = λ z. absurd (omega arith); number = refl }

-- ---- calls that empty the log

-- a posting and the guarantee calls: they ask nothing last, keep no entry, and have the number 0 where they are accepted
pub record Empties (c : Call) : Type 0 where
  pub last : (n : ℕ) → lastly n c ≡ []
  pub entered : (limits : Limits) (n : ℕ) (es : List (List ℕ)) (b : Book) → call_entered limits n es b c ≡ emptying (effect limits b c)
  pub number : (limits : Limits) (b : Book) → (effect limits b c).answer.number ≡ 0

pub posting_empties : (id area : ℕ) (amount : ℤ) → Empties (posting id area amount)
unfolding lastly call_entered effect only
posting_empties id area amount = record { last = λ n. refl; entered = λ limits n es b. refl; number = λ limits b. refl }

pub morning_empties : (id : ℕ) → Empties (morning_call_of id)
unfolding lastly call_entered effect guaranteed of_level
morning_empties id = record { last = λ n. refl; entered = λ limits n es b. refl; number = λ limits b. refl }

pub afternoon_empties : (id : ℕ) → Empties (afternoon_call_of id)
unfolding lastly call_entered effect guaranteed of_level
afternoon_empties id = record { last = λ n. refl; entered = λ limits n es b. refl; number = λ limits b. refl }

-- ---- what is noted passes question 19

cuts_fit : (us : List User) (cs : List ℕ) (ts : List Trade) → T (cuts_within bilateral_for_day cs ts) → T (all (trade_is_valid us) ts) → EntryFits (length ts) cs
unfolding cuts_within all
cuts_fit us [] [] h k = (refl, tt)
cuts_fit us [] (t ∷ ts) h k = absurd h
cuts_fit us (c ∷ cs) [] h k = absurd h
cuts_fit us (c ∷ cs) (t ∷ ts) h k =
    let w = cut_within bilateral_for_day c t in
    let r = cuts_fit us cs ts (and_r w (cuts_within bilateral_for_day cs ts) h) (and_r (trade_is_valid us t) (all (trade_is_valid us) ts) k) in
    let l = cut_le bilateral_for_day c t (and_l w (cuts_within bilateral_for_day cs ts) h) in
    let m = standing_le us t (and_l (trade_is_valid us t) (all (trade_is_valid us) ts) k) in
    (ap suc r.0, (omega arith, r.1))

-- there are as many trades after cuts as before
cut_count : (n : Book) (cs : List ℕ) → T (cuts_within bilateral_for_day cs n.trades) → length (cut_all cs n.trades) ≡ length n.trades
cut_count n cs h = pairs_length (framed (cuts_lowered cs n.trades h))

pub noted_fit : {o : Book} {es : List (List ℕ)} {b : Book} → Noted o es b → Every (EntryFits (length b.trades)) es
unfolding with_trades
noted_fit (start s) = tt
noted_fit (cut {es = es} {n = n} cs p s h) =
    subst (λ (m : ℕ). EntryFits m cs × Every (EntryFits m) es) (sym (cut_count n cs h)) (cuts_fit n.users cs n.trades h s.trades, noted_fit p)

pub noted_within : {o : Book} {es : List (List ℕ)} {b : Book} → Noted o es b → T (raises_within (all_cuts (length b.trades) es) b.trades)
unfolding with_trades all_cuts
noted_within {o} (start s) = none_raised o.users o.trades s.trades
noted_within (cut {es = es} {n = n} cs p s h) =
    subst (λ (m : ℕ). T (raises_within (all_cuts m (cs ∷ es)) (cut_all cs n.trades))) (sym (cut_count n cs h))
    (cuts_raised cs (all_cuts (length n.trades) es) n.trades h (noted_within p))
