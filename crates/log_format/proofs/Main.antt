-- The main laws of withdrawals and of runs with a log, as specs/Statements.antt states them. Assumes nothing.
use Rattle.base.specs.Basics.{◌≡◌, refl, sym, ap, ◌∙◌, Option, some-ne-none, none, some, List, ◌∷◌, ℕ, zero, suc, ◌+◌, le_refl, arith, +ℤ_idr, length}
use Rattle.laws.proofs.{Fuel.run_answer, Fuel.run_stops, Main.conserved, Run.Done, Run.run_count, Run.run_done, Run.run_none, Sound.accept, Sound.sound}
use Rattle.laws.specs.Sound.{Sound}
use Rattle.rules.specs.{Book.Book, Book.User, Levels.Limits}
use Rattle.rules.specs.Calls.{Answer, Result, cuttable, effect, next_reduced, answer_of_run, only, onward, reduced, reduced_by, run, run_for}
use Rattle.log_format.proofs.{Noted.cuts_bilateral, Withdrawal.withdrawn_back, Withdrawal.withdrawn_moved, Withdrawal.withdrawn_sound}
use Rattle.log_format.specs.{Noted.entry_of, Noted.noted, Noted.noting, Noted.run_within, Noted.stopped, Statements.RunsWithin, Statements.Withdraws}
use Rattle.log_format.specs.Withdrawal.{returned, withdrawn}

pub withdraws : Withdraws
unfolding returned answer_of_run reduced_by
withdraws =
    record {
      accepts = λ b cs t h. accept (withdrawn b cs) (withdrawn_sound b cs (sound b t) h);
      mwh = λ b cs t h. (withdrawn_moved b cs (sound b t) h).mwh_left;
      worth = λ b cs t h. (withdrawn_moved b cs (sound b t) h).worth_left;
      positions = λ b cs t h a k.
          conserved.sums (withdrawn b cs) (accept (withdrawn b cs) (withdrawn_sound b cs (sound b t) h)) a k
          ∙ (withdrawn_moved b cs (sound b t) h).physical a k
          ∙ +ℤ_idr _
          ∙ sym (conserved.sums b t a k);
      back = λ b u asked t. withdrawn_back b _ (sound b t) (cuts_bilateral b u asked);
    }

module _ (limits : Limits) where
  -- a run that ends with nobody due is the same with any more fuel
  same_run : (n m : ℕ) (b : Book) → Done limits (run_for limits n b).book → Done limits (run_for limits m b).book → run_for limits n b ≡ run_for limits m b
  unfolding run_for Done onward
  same_run zero m b h k = sym (run_stops limits m b h)
  same_run (suc n) zero b h k = run_stops limits (suc n) b k
  same_run (suc n) (suc m) b h k = go (next_reduced limits b b.users) (λ u. same_run n m (reduced limits b u).book) h k
    where
      go : (o : Option User)
          → ((u : User) → Done limits (run_for limits n (reduced limits b u).book).book → Done limits (run_for limits m (reduced limits b u).book).book → run_for limits n (reduced limits b u).book ≡ run_for limits m (reduced limits b u).book)
          → Done limits (onward limits b o (run_for limits n)).book → Done limits (onward limits b o (run_for limits m)).book → onward limits b o (run_for limits n) ≡ onward limits b o (run_for limits m)
      go none ih x y = refl
      go (some u) ih x y = ap (λ (rest : Result Book). onward limits b (some u) (λ c. rest)) (ih u x y)

  noted_entries : (n : ℕ) (b : Book) (es : List (List ℕ)) → length (noted limits n b es) ≡ (run_for limits n b).answer.reductions + length es
  unfolding noted noting run_for onward only answer_of_run
  noted_entries zero b es = omega arith
  noted_entries (suc n) b es = go (next_reduced limits b b.users) (λ u. noted_entries n (reduced limits b u).book (entry_of limits b u ∷ es))
    where
      go : (o : Option User)
          → ((u : User) → length (noted limits n (reduced limits b u).book (entry_of limits b u ∷ es)) ≡ (run_for limits n (reduced limits b u).book).answer.reductions + suc (length es))
          → length (noting limits b o (noted limits n) es) ≡ (onward limits b o (run_for limits n)).answer.reductions + length es
      go none ih = omega arith
      go (some u) ih = omega (arith, ih u)

  noted_none : (n : ℕ) (b : Book) (es : List (List ℕ)) → (run_for limits n b).answer.reductions ≡ 0 → noted limits n b es ≡ es
  unfolding noted noting run_for onward answer_of_run
  noted_none zero b es h = refl
  noted_none (suc n) b es h = go (next_reduced limits b b.users) h
    where
      go : (o : Option User) → (onward limits b o (run_for limits n)).answer.reductions ≡ 0 → noting limits b o (noted limits n) es ≡ es
      go none k = refl
      go (some u) k = absurd (omega arith)

  -- by the user that is due next
  stopped_reductions : (o : Option User) (a : Answer) → (stopped o a).reductions ≡ a.reductions
  unfolding stopped
  stopped_reductions none a = refl
  stopped_reductions (some u) a = refl

  stopped_due : (o : Option User) (a : Answer) → a.number ≡ 0 → (stopped o a).number ≡ 20 → o ≡ none → ⊥
  unfolding stopped
  stopped_due none a z h e = omega arith
  stopped_due (some u) a z h e = some-ne-none u e

  stopped_none : (o : Option User) (a : Answer) → (stopped o a).number ≡ 0 → (o ≡ none) × (stopped o a ≡ a)
  unfolding stopped
  stopped_none none a h = (refl, refl)
  stopped_none (some u) a h = absurd (omega arith)

  -- a run of the rules has the number 0
  pub number-zero : (n : ℕ) (b : Book) → (run_for limits n b).answer.number ≡ 0
  unfolding answer_of_run
  number-zero n b = ap (λ (a : Answer). a.number) (run_answer limits n b)

  run_whole : (n : ℕ) (b : Book) → Sound b → (run_within limits n b).answer.number ≡ 0 → run_within limits n b ≡ effect limits b run
  unfolding run_within effect Done
  run_whole n b s h =
      let r = run_for limits n b in
      let q = stopped_none (next_reduced limits r.book r.book.users) r.answer h in
      let m = cuttable b.trades in
      ap (λ (a : Answer). record { answer = a; book = r.book }) q.1 ∙ same_run n m b q.0 (run_done limits m b s (le_refl m))

  pub runs_within : RunsWithin limits
  unfolding run_within
  runs_within =
      record {
        entries = λ n b es.
            let r = run_for limits n b in
            noted_entries n b es ∙ ap (λ (k : ℕ). k + length es) (sym (stopped_reductions (next_reduced limits r.book r.book.users) r.answer));
        most = λ n b.
            let r = run_for limits n b in
            omega (arith, run_count limits n b, stopped_reductions (next_reduced limits r.book r.book.users) r.answer);
        idle = λ n b es h.
            let r = run_for limits n b in
            let k = sym (stopped_reductions (next_reduced limits r.book r.book.users) r.answer) ∙ h in
            (noted_none n b es k, run_none limits n b k);
        due = λ n b h e. let r = run_for limits n b in stopped_due (next_reduced limits r.book r.book.users) r.answer (number-zero n b) h e;
        whole = λ n b t h. run_whole n b (sound b t) h;
      }
