-- The main laws of withdrawals and of runs with a log, as statements. Each holds for every book, entry and set of limits; the proofs stand in proofs/Main.antt.
use Rattle.std.specs.Prelude.{◌≡◌, ◌+◌, ◌<◌, ◌≤◌}
use Rattle.base.specs.Basics.{none, List, ℕ, T, pos, neg_ℤ, length}
use Rattle.base.specs.Sums.{sum_ℤ}
use Rattle.laws.specs.Trades.{left_mwh, left_worth}
use Rattle.rules.specs.Book.{Book, User, at}
use Rattle.rules.specs.Calls.{effect, next_reduced, reduced_by, run}
use Rattle.rules.specs.Levels.{Limits}
use Rattle.rules.specs.Questions.{accepted}
use Rattle.rules.specs.Reduction.{cuts}
use Rattle.log_format.specs.Fits.{raises_within}
use Rattle.log_format.specs.Noted.{noted, run_within}
use Rattle.log_format.specs.Withdrawal.{returned, withdrawn}

-- The cuts of an entry that fits the trades, given back.
pub record Withdraws : Type 0 where
  -- the book stays accepted
  pub accepts : (b : Book) (cs : List ℕ) → T (accepted b) → T (raises_within cs b.trades) → T (accepted (withdrawn b cs))
  -- what it returns comes back to the trades, in MWh and in worth
  pub mwh : (b : Book) (cs : List ℕ) → T (accepted b) → T (raises_within cs b.trades) → left_mwh b.trades (withdrawn b cs).trades ≡ neg_ℤ (pos (returned b cs).mwh)
  pub worth : (b : Book) (cs : List ℕ) → T (accepted b) → T (raises_within cs b.trades)
      → left_worth b.header.prices b.trades (withdrawn b cs).trades ≡ neg_ℤ (pos (returned b cs).worth)
  -- the positions of each area sum to what they summed to
  pub positions : (b : Book) (cs : List ℕ) → T (accepted b) → T (raises_within cs b.trades) → (a : ℕ) → a < 3
      → sum_ℤ (λ u. at u.position a) (withdrawn b cs).users ≡ sum_ℤ (λ u. at u.position a) b.users
  -- a reduction that is withdrawn leaves the book as it was
  pub back : (b : Book) (u : User) (asked : ℕ) → T (accepted b) → withdrawn (reduced_by b u asked).book (cuts b u asked) ≡ b

-- A run with a log that has room for n more entries.
pub record RunsWithin (limits : Limits) : Type 0 where
  -- "a run one for each of its own": as many entries more as reductions that it reports
  pub entries : (n : ℕ) (b : Book) (es : List (List ℕ)) → length (noted limits n b es) ≡ (run_within limits n b).answer.reductions + length es
  pub most : (n : ℕ) (b : Book) → (run_within limits n b).answer.reductions ≤ n
  -- one that reports none leaves the entries and the book
  pub idle : (n : ℕ) (b : Book) (es : List (List ℕ)) → (run_within limits n b).answer.reductions ≡ 0 → (noted limits n b es ≡ es) × ((run_within limits n b).book ≡ b)
  -- it stops with 20 "while a reduction is due"
  pub due : (n : ℕ) (b : Book) → let r = run_within limits n b in r.answer.number ≡ 20 → next_reduced limits r.book r.book.users ≡ none → ⊥
  -- where it returns 0 it is the run without a log
  pub whole : (n : ℕ) (b : Book) → T (accepted b) → (run_within limits n b).answer.number ≡ 0 → run_within limits n b ≡ effect limits b run
