-- A run of at most so many reductions: one more reduction, and its end. What it notes. Assumes nothing.
use Rattle.base.specs.Basics.{◌≡◌, refl, ap, ◌∙◌, none, some, List, ◌∷◌, ℕ, zero, suc, ◌+◌, arith}
use Rattle.laws.proofs.Fuel.{run_stops}
use Rattle.rules.specs.Book.{Book, User}
use Rattle.rules.specs.Calls.{Answer, next_reduced, answer_of_cuts, answer_of_run, only, onward, reduced, run_for}
use Rattle.rules.specs.Levels.{Limits}
use Rattle.rules.specs.Reduction.{Tally, target}
use Rattle.run_state.proofs.Left.{continued, same_totals}
use Rattle.log_format.specs.Noted.{entry_of, noted, noting}

module _ (limits : Limits) where
  -- ---- one more reduction

  module _ (b : Book) (u : User) (next : next_reduced limits b b.users ≡ some u) (n k : ℕ) (many : n ≡ suc k) where
    pub budget_turn : (r m w : ℕ) (tally : Tally) → (reduced limits b u).answer ≡ answer_of_cuts (target limits b u) tally
        → continued r m w (run_for limits n b) ≡ continued (r + 1) (m + tally.mwh) (w + tally.worth) (run_for limits k (reduced limits b u).book)
    unfolding continued run_for onward answer_of_run answer_of_cuts
    budget_turn r m w tally answer =
        let rest = run_for limits k (reduced limits b u).book in
        let mwh : (reduced limits b u).answer.mwh ≡ tally.mwh = ap (λ (z : Answer). z.mwh) answer in
        let worth : (reduced limits b u).answer.worth ≡ tally.worth = ap (λ (z : Answer). z.worth) answer in
        rw (many, next) (same_totals rest.book (omega arith) (omega (arith, mwh)) (omega (arith, worth)))

    pub noted_turn : (es : List (List ℕ)) → noted limits n b es ≡ noted limits k (reduced limits b u).book (entry_of limits b u ∷ es)
    unfolding noted noting
    noted_turn es = rw (many, next)

  -- ---- the end

  -- nobody is due
  pub budget_stops : (b : Book) (n r m w : ℕ) → next_reduced limits b b.users ≡ none → continued r m w (run_for limits n b) ≡ record { answer = answer_of_run r m w; book = b }
  unfolding continued only answer_of_run
  budget_stops b n r m w none-next = ap (continued r m w) (run_stops limits n b none-next) ∙ same_totals b (omega arith) (omega arith) (omega arith)

  pub noted_stops : (b : Book) (n : ℕ) (es : List (List ℕ)) → next_reduced limits b b.users ≡ none → noted limits n b es ≡ es
  unfolding noted noting
  noted_stops b zero es e = refl
  noted_stops b (suc n) es e = rw e

  -- no more is allowed
  pub budget_spent : (b : Book) (n r m w : ℕ) → n ≡ 0 → continued r m w (run_for limits n b) ≡ record { answer = answer_of_run r m w; book = b }
  unfolding continued run_for only answer_of_run
  budget_spent b n r m w e = rw e (same_totals b (omega arith) (omega arith) (omega arith))

  pub noted_spent : (b : Book) (n : ℕ) (es : List (List ℕ)) → n ≡ 0 → noted limits n b es ≡ es
  unfolding noted
  noted_spent b n es e = rw e
